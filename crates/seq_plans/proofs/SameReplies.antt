-- Two refusals with the same numbers are one.
use Rattle.seq_state.specs.kernel_rules.proofs.{◌≡◌, ℕ, Bool, true, false, ◌==◌, ◌&&◌, if◌then◌else◌, refl, sym, ◌∙◌, ap, false≢true}
use Rattle.seq_state.specs.kernel_rules.proofs.{true≢false, eqb-true, eq-eqb, Reply, IsRefusal}
use Rattle.seq_plans.specs.{Refusals.Decides, ReplyNumbers.reply_number, ReplyNumbers.number_told}

-- The refusal with these numbers.
reply_at : ℕ → ℕ → Reply
reply_at n k =
    if n == 1 then Reply.NoSlot
    else (if n == 2 then Reply.Empty
    else (if n == 3 then Reply.WrongCap
    else (if n == 4 then Reply.Occupied
    else (if n == 5 then Reply.Quiescing k
    else (if n == 6 then Reply.Unflushed k
    else (if n == 7 then Reply.FrameKind
    else (if n == 8 then Reply.OutOfRange
    else (if n == 9 then Reply.Referenced k
    else (if n == 10 then Reply.NotEmpty
    else (if n == 11 then Reply.Dead
    else (if n == 12 then Reply.Deep
    else (if n == 13 then Reply.Bottom
    else (if n == 14 then Reply.Running k
    else (if n == 15 then Reply.Short k
    else (if n == 16 then Reply.Unlike
    else (if n == 17 then Reply.TooMany
    else (if n == 18 then Reply.Same
    else (if n == 19 then Reply.EpochsSpent
    else (if n == 20 then Reply.Raced
    else (if n == 21 then Reply.Busy k
    else (if n == 22 then Reply.Fault
    else (if n == 23 then Reply.CallsSpent
    else Reply.NoRight))))))))))))))))))))))

reply_back : (r : Reply) → IsRefusal r → reply_at (reply_number r) (number_told r) ≡ r
unfolding reply_at
reply_back (Reply.Ok v) refused = absurd refused
reply_back Reply.NoSlot refused = refl
reply_back Reply.Empty refused = refl
reply_back Reply.WrongCap refused = refl
reply_back Reply.Occupied refused = refl
reply_back (Reply.Quiescing n) refused = refl
reply_back (Reply.Unflushed n) refused = refl
reply_back Reply.FrameKind refused = refl
reply_back Reply.OutOfRange refused = refl
reply_back (Reply.Referenced n) refused = refl
reply_back Reply.NotEmpty refused = refl
reply_back Reply.Dead refused = refl
reply_back Reply.Deep refused = refl
reply_back Reply.Bottom refused = refl
reply_back (Reply.Running n) refused = refl
reply_back (Reply.Short n) refused = refl
reply_back Reply.Unlike refused = refl
reply_back Reply.TooMany refused = refl
reply_back Reply.Same refused = refl
reply_back Reply.EpochsSpent refused = refl
reply_back Reply.Raced refused = refl
reply_back (Reply.Busy n) refused = refl
reply_back Reply.Fault refused = refl
reply_back Reply.CallsSpent refused = refl
reply_back Reply.NoRight refused = refl

not_ok : (r : Reply) → IsRefusal r → (reply_number r == 0) ≡ false
not_ok (Reply.Ok v) refused = absurd refused
not_ok _ refused = refl

pub same_numbers : (p r : Reply) → IsRefusal r → reply_number p ≡ reply_number r → number_told p ≡ number_told r → p ≡ r
same_numbers (Reply.Ok v) r refused e d = absurd (true≢false (ap (λ n. n == 0) e ∙ not_ok r refused))
same_numbers p r refused e d = sym (reply_back p tt) ∙ (λ i. reply_at (e i) (d i)) ∙ reply_back r refused

pub decides_same : (p r : Reply) → IsRefusal r
    → Decides (reply_number p == reply_number r && number_told p == number_told r) (p ≡ r)
decides_same p r refused = by_tests (reply_number p == reply_number r) refl (number_told p == number_told r) refl
  where
    by_tests : (a : Bool) → (reply_number p == reply_number r) ≡ a → (b : Bool) → (number_told p == number_told r) ≡ b
        → Decides (a && b) (p ≡ r)
    by_tests true is true at = same_numbers p r refused (eqb-true (reply_number p) (reply_number r) is)
        (eqb-true (number_told p) (number_told r) at)
    by_tests true is false at = λ e. false≢true (sym at ∙ eq-eqb (number_told p) (number_told r) (ap number_told e))
    by_tests false is b at = λ e. false≢true (sym is ∙ eq-eqb (reply_number p) (reply_number r) (ap reply_number e))
