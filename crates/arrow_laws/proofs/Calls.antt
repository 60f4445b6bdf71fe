-- Where a core has entered and returned last.
use Rattle.page_drawing.specs.kernel_history.proofs.{◌≡◌, ◌≢◌, inl, inr, ℕ, suc, ◌<◌, ◌≤◌, ◌==◌, ◌&&◌, cond, Bool, true, false, [], ◌∷◌}
use Rattle.page_drawing.specs.kernel_history.proofs.{length, Option, Some, None, refl, sym, ◌∙◌, ap, subst, arith, is_some, eq-eqb, ne_eqb}
use Rattle.page_drawing.specs.kernel_history.proofs.{Setting, Call, Reply, Step, Phase, Out, phase, after_enter, after_decide, after_return}
use Rattle.page_drawing.specs.kernel_history.proofs.{IsLegal, phase-own, phase-other}
use Rattle.arrow_laws.specs.{entered_at, returned_at, before_entry}
use Rattle.{std.proofs.lemmas.Bool.cases_eq, page_drawing.specs.kernel_history.specs.Trace.Trace}

pub entered_before : (t : Trace) (c : ℕ) → entered_at t c ≤ length t
entered_before [] c = omega arith
entered_before (e ∷ t) c = by (c == e.core && is_some e.enters) (entered_before t c) where
  by : (b : Bool) → entered_at t c ≤ length t → cond b (suc (length t)) (entered_at t c) ≤ suc (length t)
  by true h = omega arith
  by false h = omega (arith, h)

pub returned_before : (t : Trace) (c : ℕ) → returned_at t c ≤ length t
returned_before [] c = omega arith
returned_before (e ∷ t) c = by (c == e.core && is_some e.returns) (returned_before t c) where
  by : (b : Bool) → returned_at t c ≤ length t → cond b (suc (length t)) (returned_at t c) ≤ suc (length t)
  by true h = omega arith
  by false h = omega (arith, h)

pub before_less : (t : Trace) (c : ℕ) → length (before_entry t c) ≤ entered_at t c
before_less [] c = omega arith
before_less (e ∷ t) c = by (c == e.core && is_some e.enters) (before_less t c) where
  by : (b : Bool) → length (before_entry t c) ≤ entered_at t c
      → length (cond b t (before_entry t c)) ≤ cond b (suc (length t)) (entered_at t c)
  by true h = omega arith
  by false h = h

-- A core that had returned when another entered its call has returned no earlier since.
pub before_returns : (t : Trace) (c d : ℕ) → returned_at (before_entry t c) d ≤ returned_at t d
before_returns [] c d = omega arith
before_returns (e ∷ t) c d =
    by (c == e.core && is_some e.enters) (d == e.core && is_some e.returns) (before_returns t c d) (returned_before t d)
  where
    by : (b k : Bool) → returned_at (before_entry t c) d ≤ returned_at t d → returned_at t d ≤ length t
        → returned_at (cond b t (before_entry t c)) d ≤ cond k (suc (length t)) (returned_at t d)
    by true true h g = omega (arith, g)
    by true false h g = omega arith
    by false true h g = omega (arith, h, g)
    by false false h g = h

-- Of its own step, and of another core's.
module _ (e : Step) (t : Trace) where
  pub entered_own : entered_at (e ∷ t) e.core ≡ cond (is_some e.enters) (suc (length t)) (entered_at t e.core)
  entered_own = rw (eq-eqb e.core e.core refl)

  pub returned_own : returned_at (e ∷ t) e.core ≡ cond (is_some e.returns) (suc (length t)) (returned_at t e.core)
  returned_own = rw (eq-eqb e.core e.core refl)

  pub before_own : before_entry (e ∷ t) e.core ≡ cond (is_some e.enters) t (before_entry t e.core)
  before_own = rw (eq-eqb e.core e.core refl)

  module _ (c : ℕ) (other : c ≢ e.core) where
    pub entered_other : entered_at (e ∷ t) c ≡ entered_at t c
    entered_other = rw (ne_eqb c e.core other)

    pub returned_other : returned_at (e ∷ t) c ≡ returned_at t c
    returned_other = rw (ne_eqb c e.core other)

    pub before_other : before_entry (e ∷ t) c ≡ before_entry t c
    before_other = rw (ne_eqb c e.core other)

-- A core that is in a call has entered it after its last return.
own_since : (enters : Option Call) (decides returns : Option Reply) (p : Phase) (n r i : ℕ) → after_enter enters p ≢ Out
    → after_return returns (after_decide decides (after_enter enters p)) ≢ Out → r ≤ n → (p ≢ Out → r < i)
    → cond (is_some returns) (suc n) r < cond (is_some enters) (suc n) i
own_since enters decides (Some q) p n r i inside still le before = absurd (still refl)
own_since (Some call) decides None p n r i inside still le before = omega (arith, le)
own_since None decides None p n r i inside still le before = before inside

pub in_call_since : (setup : Setting) (t : Trace) → IsLegal setup t → (c : ℕ) → phase t c ≢ Out → returned_at t c < entered_at t c
in_call_since setup [] legal c inside = absurd (inside refl)
in_call_since setup (e ∷ t) legal c inside = elim (cases_eq c e.core) [
  | inl own ↦ subst (λ (d : ℕ). returned_at (e ∷ t) d < entered_at (e ∷ t) d) (sym own)
      (subst (λ (n : ℕ). n < entered_at (e ∷ t) e.core) (sym (returned_own e t))
      (subst (λ (n : ℕ). cond (is_some e.returns) (suc (length t)) (returned_at t e.core) < n) (sym (entered_own e t))
      (own_since e.enters e.decides e.returns (phase t e.core) (length t) (returned_at t e.core) (entered_at t e.core) legal.1.in_call
      (λ out. inside (ap (phase (e ∷ t)) own ∙ phase-own e.core e t refl ∙ out)) (returned_before t e.core)
      (in_call_since setup t legal.0 e.core))))
  | inr other ↦ subst (λ (n : ℕ). n < entered_at (e ∷ t) c) (sym (returned_other e t c other))
      (subst (λ (n : ℕ). returned_at t c < n) (sym (entered_other e t c other))
      (in_call_since setup t legal.0 c (λ out. inside (phase-other c e t other ∙ out))))
]
