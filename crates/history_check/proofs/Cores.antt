-- What is seen of the cores, beside their phases.
use Rattle.call_judge.specs.seq_state.specs.kernel_rules.proofs.{◌≡◌, ◌≢◌, ℕ, ◌<◌, ◌==◌, Bool, true, false, List, length, get_or, refl, sym}
use Rattle.call_judge.specs.seq_state.specs.kernel_rules.proofs.{ap, subst, ◌∙◌}
use Rattle.call_judge.specs.seq_state.specs.kernel_rules.proofs.{inl, inr, IsTrue, arith, set as slice_set, false≢true, true≢false, eq-eqb}
use Rattle.call_judge.specs.seq_state.specs.kernel_rules.proofs.{ne_eqb}
use Rattle.call_judge.specs.seq_state.specs.kernel_rules.proofs.{get_or-set_same, get_or-set_other, Call, Phase, Out, Open, Decided, is_in}
use Rattle.call_judge.specs.seq_state.specs.kernel_rules.proofs.{is_decided}
use Rattle.history_check.specs.{at_of, is_inside, seen_of}
use Rattle.history_check.specs.{declared.seen.At.At, declared.seen.Seen.Seen, Judging.no_one}
use Rattle.{std.proofs.lemmas.List.get_or_default, std.proofs.lemmas.Bool.cases_eq, marked_history.specs.Histories.CanBeDecided}

-- ---- phases

pub inside_is : (p : Phase) → is_inside (at_of p) ≡ is_in p
inside_is Out = refl
inside_is (Open call) = refl
inside_is (Decided call r) = refl

pub out_is : (p : Phase) → At.Out ≡ at_of p → p ≡ Out
out_is Out e = refl
out_is (Open call) e = absurd (false≢true (ap is_inside e))
out_is (Decided call r) e = absurd (false≢true (ap is_inside e))

abbrev call_or : At → Call → Call
call_or At.Out other = other
call_or (At.Open call) other = call
call_or At.Decided other = other

abbrev is_at_open : At → Bool
is_at_open At.Out = false
is_at_open (At.Open call) = true
is_at_open At.Decided = false

abbrev is_at_decided : At → Bool
is_at_decided At.Out = false
is_at_decided (At.Open call) = false
is_at_decided At.Decided = true

pub open_is : (p : Phase) (call : Call) → At.Open call ≡ at_of p → p ≡ Open call
open_is Out call e = absurd (true≢false (ap is_at_open e))
open_is (Open other) call e = ap Open (sym (ap (λ a. call_or a call) e))
open_is (Decided other r) call e = absurd (true≢false (ap is_at_open e))

pub decided_is : (p : Phase) → At.Decided ≡ at_of p → IsTrue (is_decided p)
decided_is Out e = absurd (true≢false (ap is_at_decided e))
decided_is (Open call) e = absurd (true≢false (ap is_at_decided e))
decided_is (Decided call r) e = refl

-- Where a core is not out, not in an open call, or not in a decided one, its phase is none of those.
pub not_out : (p : Phase) (a : At) → a ≡ at_of p → IsTrue (is_inside a) → p ≡ Out → ⊥
not_out p a e inside out = false≢true (sym (ap is_inside (e ∙ ap at_of out)) ∙ inside)

pub not_open : (p : Phase) (a : At) → a ≡ at_of p → is_at_open a ≡ false → CanBeDecided p → ⊥
not_open Out a e shut can = can
not_open (Open call) a e shut can = true≢false (sym (ap is_at_open e) ∙ shut)
not_open (Decided call r) a e shut can = can

pub not_decided : (p : Phase) (a : At) → a ≡ at_of p → is_at_decided a ≡ false → IsTrue (is_decided p) → ⊥
not_decided Out a e other h = false≢true h
not_decided (Open call) a e other h = false≢true h
not_decided (Decided call r) a e other h = true≢false (sym (ap is_at_decided e) ∙ other)

-- ---- what is seen of each core

-- What holds of core c, and of each other, holds of each.
pub of_each : (P : ℕ → Type 0) (c : ℕ) → P c → ((d : ℕ) → d ≢ c → P d) → (d : ℕ) → P d
of_each P c own others d = elim (cases_eq d c) [
  | inl same ↦ subst P (sym same) own
  | inr other ↦ others d other
]

pub seen_own : (seen : List Seen) (c : ℕ) (s : Seen) → c < length seen → seen_of (slice_set seen c s) c ≡ s
seen_own seen c s lt = get_or-set_same seen c s no_one lt

pub seen_other : (seen : List Seen) (c : ℕ) (s : Seen) (d : ℕ) → d ≢ c → seen_of (slice_set seen c s) d ≡ seen_of seen d
seen_other seen c s d other = get_or-set_other seen c d s no_one other

-- What the code finds at the place of a core is what is seen of it.
pub seen_at : (seen : List Seen) (c i : ℕ) (x : Seen) → length seen ≡ 8 → c < 8 → i ≡ c → x ≡ get_or seen i x → seen_of seen c ≡ x
seen_at seen c i x eight few at is =
    let lt : i < length seen = omega (arith, eight, few, at) in
    ap (seen_of seen) (sym at) ∙ sym (is ∙ get_or_default seen i x no_one lt)

pub here : (c : ℕ) → (c == c) ≡ true
here c = eq-eqb c c refl

pub apart : (d c : ℕ) → d ≢ c → (d == c) ≡ false
apart d c other = ne_eqb d c other

pub turned : {a b : ℕ} → a ≢ b → b ≢ a
turned other = λ e. other (sym e)
