-- What the call `replenish` of core 0, made alone, does to budgets and to what the core has spent, has had back, and owes.
use Rattle.sched_laws.proofs.Common.{◌≡◌, ◌≢◌, ℕ, ◌+◌, Bool, true, false, refl, sym, ◌∙◌, ap, subst, if◌then◌else◌, [], ◌∷◌, Some, None}
use Rattle.sched_laws.proofs.Common.{IsTrue, eq-eqb, ne_eqb, false≢true, true≢false, Capability, Replenish, Nothing, Reply, TcapFields}
use Rattle.sched_laws.proofs.Common.{Frame, Kernel, Tcap, State, tcap_in, put, only, to_use, found, entered, returned, acts, Change, does}
use Rattle.sched_laws.proofs.Common.{Judged, Found, named, and_then, unless, first_of, first_cause, fits, is_finer, is_less, tcap_at}
use Rattle.sched_laws.proofs.Common.{with_tcap, Give, are_calls_spent, change_of, changed, counted, state_by, reply_in, first_reply}
use Rattle.sched_laws.proofs.Common.{plain_reply, reply_to, state_past, is_done, Kind}
use Rattle.sched_laws.proofs.Charging.{Keeps, same_keeps, name_refused, done_value}
use Rattle.{sched_rules.specs.kernel_rules.specs.Rules.Refused, sched_laws.specs.Charging.Restores}

-- A refusal changes nothing of this.
by_reply : (s : State) (a m : ℕ) (r : Reply) → is_done r ≡ false → Keeps s (state_by s 0 (Replenish a m) r)
by_reply s a m (Reply.Ok v) off = absurd (true≢false off)
by_reply s a m Reply.CallsSpent off = same_keeps s
by_reply s a m Reply.Raced off = record { budgets = λ g. refl; spent = refl; back = refl; owed = refl }
by_reply s a m (Reply.Busy d) off = record { budgets = λ g. refl; spent = refl; back = refl; owed = refl }
by_reply s a m _ off = record { budgets = λ g. refl; spent = refl; back = refl; owed = refl }

pub replenish_keeps : (s : State) (a m : ℕ) → is_done (reply_to s (Replenish a m)) ≡ false → Keeps s (state_past s (Replenish a m))
unfolding reply_to state_past
replenish_keeps s a m off =
    let k = by_reply (entered s 0) a m (plain_reply s 0 (Replenish a m)) off in
    record { budgets = k.budgets; spent = k.spent; back = k.back; owed = k.owed }

-- The change that gives ticks back to the temporal capability of a frame.
abbrev gives_back : State → ℕ → ℕ → Change
gives_back s f m = does 0 s Nothing (Give f m ∷ [])

-- What is judged is that the ticks are given back to the temporal capability that the name leads to.
record Gives (s : State) (a m : ℕ) (j : Judged Change) : Type 0 where
  tcap : Capability
  led : named s 0 a (to_use (only Kind.Tcap)) ≡ Found tcap
  is : j ≡ Found (gives_back s tcap.frame m)

judged_gives : (s : State) (a m : ℕ) → is_done (reply_in (change_of s 0 (Replenish a m))) ≡ true
    → Gives s a m (change_of s 0 (Replenish a m))
judged_gives s a m done = by_name (named s 0 a (to_use (only Kind.Tcap))) refl done
  where
    by_causes : (k : Capability) → named s 0 a (to_use (only Kind.Tcap)) ≡ Found k → (b d : Bool) (n : ℕ)
        → is_done (reply_in (unless (first_of (if b then Some Reply.Unlike else None)
        (first_of (if d then Some (Reply.Short n) else None) None)) (gives_back s k.frame m))) ≡ true
        → Gives s a m (unless (first_of (if b then Some Reply.Unlike else None)
        (first_of (if d then Some (Reply.Short n) else None) None)) (gives_back s k.frame m))
    by_causes k led true d n done = absurd (false≢true done)
    by_causes k led false true n done = absurd (false≢true done)
    by_causes k led false false n done = record { tcap = k; led = led; is = refl }

    by_name : (x : Judged Capability) → named s 0 a (to_use (only Kind.Tcap)) ≡ x
        → is_done (reply_in (and_then x (λ k. unless (first_cause s 0 (is_finer s 0 (found k) ∷ is_less s 0 m ∷ []))
        (gives_back s k.frame m)))) ≡ true
        → Gives s a m (and_then x (λ k. unless (first_cause s 0 (is_finer s 0 (found k) ∷ is_less s 0 m ∷ []))
        (gives_back s k.frame m)))
    by_name (Refused r) led done = absurd (false≢true (sym (name_refused s a (to_use (only Kind.Tcap)) r led) ∙ done))
    by_name (Found k) led done = by_causes k led _ _ _ done

given_tcap : (x : Frame) (p : TcapFields) → IsTrue (fits Kind.Tcap x) → tcap_in (with_tcap x p) ≡ p
given_tcap (Kernel (Tcap q)) p fit = refl
given_tcap _ p fit = absurd (false≢true fit)

-- The temporal capability in the frame after it, and those in others.
abbrev given : State → ℕ → ℕ → TcapFields
given s f m = record (tcap_at s f) { budget = (tcap_at s f).budget + m }

here : (s : State) (f m : ℕ) → IsTrue (fits Kind.Tcap (s.frame f))
    → (tcap_in (put s.frame f (with_tcap (s.frame f) (given s f m)) f)).budget ≡ (tcap_at s f).budget + m
here s f m fit =
    ap (λ b. (tcap_in (if b then with_tcap (s.frame f) (given s f m) else s.frame f)).budget) (eq-eqb f f refl)
    ∙ ap (λ (x : TcapFields). x.budget) (given_tcap (s.frame f) (given s f m) fit)

elsewhere : (s : State) (f m g : ℕ) → g ≢ f
    → (tcap_in (put s.frame f (with_tcap (s.frame f) (given s f m)) g)).budget ≡ (tcap_at s g).budget
elsewhere s f m g other =
    ap (λ b. (tcap_in (if b then with_tcap (s.frame f) (given s f m) else s.frame g)).budget) (ne_eqb g f other)

-- A `replenish` that is carried out gives its ticks back to the temporal capability that its name leads to.
pub record Restored (s new : State) (a m : ℕ) : Type 0 where
  pub tcap : Capability
  pub led : named s 0 a (to_use (only Kind.Tcap)) ≡ Found tcap
  pub restores : Restores s new tcap.frame m

pub replenish_restores : (s : State) (a m : ℕ) → (s.core 0).owed ≡ 0 → is_done (reply_to s (Replenish a m)) ≡ true
    → Restored s (state_past s (Replenish a m)) a m
unfolding reply_to state_past
replenish_restores s a m owes done =
    let gives = judged_gives (entered s 0) a m (by_spent (are_calls_spent (entered s 0) 0) done) in
    let next : State = state_by (entered s 0) 0 (Replenish a m) (plain_reply s 0 (Replenish a m)) in
    let is : next ≡ counted (changed (entered s 0) (Found (gives_back (entered s 0) gives.tcap.frame m))) 0 =
    done_value (plain_reply s 0 (Replenish a m)) done (entered s 0) (Replenish a m)
    ∙ ap (λ j. counted (changed (entered s 0) j) 0) gives.is in
    subst (λ x. Restored s (returned x 0) a m) (sym is) (record {
      tcap = gives.tcap;
      led = gives.led;
      restores = record {
        budget = here s gives.tcap.frame m;
        others = elsewhere s gives.tcap.frame m;
        spent = refl;
        back = refl;
        owed = owes;
      };
    })
  where
    judged : Reply
    judged = reply_in (change_of (entered s 0) 0 (Replenish a m))

    by_life : (b : Bool) → is_done (if b then judged else Reply.Dead) ≡ true → is_done judged ≡ true
    by_life true e = e
    by_life false e = absurd (false≢true e)

    by_spent : (b : Bool) → is_done (if b then Reply.CallsSpent else first_reply (entered s 0) 0 (Replenish a m)) ≡ true
        → is_done judged ≡ true
    by_spent true e = absurd (false≢true e)
    by_spent false e = by_life (acts (entered s 0) 0 (Replenish a m)) e
