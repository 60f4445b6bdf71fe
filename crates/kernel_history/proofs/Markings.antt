-- Marks are put by the cores whose they are, in their present calls.
use Rattle.kernel_history.specs.{◌≡◌, ◌≢◌, ◌⊎◌, ℕ, ◌==◌, ◌&&◌, Bool, true, false, ◌∷◌, Option, Some, None, refl, is_some, Setting, Call}
use Rattle.kernel_history.specs.{Word, Step, IfNot, marked_by, HasMarked, MarksOwn}
use Rattle.std.proofs.Common.{inl, inr, ◌∙◌, ap, eqb-true}
use Rattle.{std.proofs.lemmas.Bool.cases_eq, kernel_history.specs.Trace.Trace}

-- A core is the one named, or it is not.
pub cases_mark : (o : Option ℕ) (d : ℕ) → (o ≡ Some d) ⊎ (o ≢ Some d)
cases_mark None d = inr (λ h. cc)
cases_mark (Some c) d = elim (cases_eq c d) [
  | inl same ↦ inl (ap (λ (n : ℕ). Some n) same)
  | inr other ↦ inr (λ h. other (some_inj h))
]
  where
    some_inj : Some c ≡ Some d → c ≡ d
    some_inj h = cc

-- A step that marks by the rule: each mark is put in the present call of its core, where no word carries the mark of a core that
-- enters a call.
pub marked_on : (setup : Setting) (t : Trace) (e : Step) → MarksOwn setup t e
    → ((call : Call) → e.enters ≡ Some call → (w : Word) → marked_by setup t w ≢ Some e.core)
    → ((w : Word) (d : ℕ) → marked_by setup t w ≡ Some d → HasMarked setup t w d)
    → (w : Word) (d : ℕ) → marked_by setup (e ∷ t) w ≡ Some d → HasMarked setup (e ∷ t) w d
marked_on setup t e marks bare marked w d is = elim (cases_mark (marked_by setup t w) d) [
  | inl was ↦ inr (still (d == e.core) refl e.enters refl was)
  | inr new ↦ elim (marks w d is) [
    | inl was ↦ absurd (new was)
    | inr own ↦ inl (record { own = own.0; here = own.1; before = new; after = is })
  ]
]
  where
    still : (b : Bool) → (d == e.core) ≡ b → (o : Option Call) → e.enters ≡ o
        → marked_by setup t w ≡ Some d → IfNot (b && is_some o) (HasMarked setup t w d)
    still false is o os was = marked w d was
    still true is None os was = marked w d was
    still true is (Some call) os was = absurd (bare call os w (was ∙ ap (λ (n : ℕ). Some n) (eqb-true d e.core is)))
