-- The newest change of a word, where it is of one core's present call.
use Rattle.flight_laws.specs.flight.specs.step_ways.proofs.{◌≡◌, ◌≢◌, ◌⊎◌, inl, inr, ℕ, suc, ◌≤◌, ◌==◌, ◌&&◌, ◌++◌, not, cond, Bool, true}
use Rattle.flight_laws.specs.flight.specs.step_ways.proofs.{false, ◌∷◌, length, Option, Some, None, refl, sym, ◌∙◌, ap, subst, is_some}
use Rattle.flight_laws.specs.flight.specs.step_ways.proofs.{option_to_list, append-nil, eq-eqb, true≢false, Call, Word, Step, Trace}
use Rattle.flight_laws.specs.flight.specs.step_ways.proofs.{calls_of, calls_of-own, calls_of-other}
use Rattle.arrow_laws.specs.{changes, newest, entered_at}
use Rattle.{std.proofs.lemmas.Bool.cases_eq, arrow_laws.proofs.Calls.entered_before}

-- The newest change of a word is core d's, in the call that it has entered last.
pub record IsHolders (t : Trace) (w : Word) (d : ℕ) : Type 0 where
  pub tail : Step
  pub before : Trace
  pub is_newest : newest t w ≡ tail ∷ before
  pub own : tail.core ≡ d
  pub call : length (calls_of (tail ∷ before) d) ≡ length (calls_of t d)
  pub since : entered_at t d ≤ suc (length before)

-- What changes a word is on it, and leaves another value.
pub changes_parts : (a b : Bool) → (a && not b) ≡ true → (a ≡ true) × (b ≡ false)
changes_parts true true h = absurd (true≢false (sym h))
changes_parts true false h = (refl, refl)
changes_parts false b h = absurd (true≢false (sym h))

module _ (e : Step) (t : Trace) (w : Word) (d : ℕ) where
  -- d's own step changes the word
  pub by_this : changes e w ≡ true → e.core ≡ d → IsHolders (e ∷ t) w d
  by_this change own = record {
    tail = e;
    before = t;
    is_newest = ap (λ (b : Bool). cond b (e ∷ t) (newest t w)) change;
    own = own;
    call = refl;
    since = entered_before (e ∷ t) d;
  }

  -- no step of d enters a call, and none changes the word
  pub by_earlier : changes e w ≡ false → (d == e.core && is_some e.enters) ≡ false → IsHolders t w d → IsHolders (e ∷ t) w d
  by_earlier kept goes h = record {
    tail = h.tail;
    before = h.before;
    is_newest = ap (λ (b : Bool). cond b (e ∷ t) (newest t w)) kept ∙ h.is_newest;
    own = h.own;
    call = h.call ∙ sym (ap length (same_calls (cases_eq d e.core)));
    since = subst (λ (n : ℕ). n ≤ suc (length h.before)) (sym (ap (λ (b : Bool). cond b (suc (length t)) (entered_at t d)) goes)) h.since;
  } where
    none : (o : Option Call) → d ≡ e.core → (d == e.core && is_some o) ≡ false → o ≡ None
    none None own h = refl
    none (Some call) own h = absurd (true≢false (sym (ap (λ (b : Bool). b && true) (eq-eqb d e.core own)) ∙ h))

    same_calls : (d ≡ e.core) ⊎ (d ≢ e.core) → calls_of (e ∷ t) d ≡ calls_of t d
    same_calls (inl own) = calls_of-own d e t own ∙ ap (λ (o : Option Call). calls_of t d ++ option_to_list o)
        (none e.enters own goes) ∙ append-nil (calls_of t d)
    same_calls (inr other) = calls_of-other d e t other

  -- They name the trace before the change.
  pub this_before : (change : changes e w ≡ true) (own : e.core ≡ d) → (by_this change own).before ≡ t
  unfolding by_this
  this_before change own = refl

  pub earlier_before : (kept : changes e w ≡ false) (goes : (d == e.core && is_some e.enters) ≡ false) (h : IsHolders t w d)
      → (by_earlier kept goes h).before ≡ h.before
  unfolding by_earlier
  earlier_before kept goes h = refl
