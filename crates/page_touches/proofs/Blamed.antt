-- A step that is blamed is met by the change of another core.
use Rattle.std.proofs.Common.{◌≡◌, ◌==◌, ◌&&◌, ◌||◌, not, cond, Bool, true, false, Option, Some, None, refl, ◌∙◌, ap, ne_eqb}
use Rattle.page_layers.specs.{Seen.Seen, Layers.is_blamed, declared.lanes.Change.Change}
use Rattle.page_touches.specs.{declared.touches.Touch.Touch, Touches.is_clock, Touches.is_first, Touches.is_told_of, Touches.met_by}
use Rattle.page_touches.specs.{Blamed.BlamedAreMet}

or_true : (b : Bool) → (b || true) ≡ true
or_true true = refl
or_true false = refl

told : (t : Touch) (s : Seen) → is_blamed s.decides ≡ true → is_clock s.word ≡ false → is_told_of t s ≡ true
told t s blamed clock =
    ap (λ (b : Bool). is_first t s || (b && not (is_clock s.word))) blamed
    ∙ ap (λ (b : Bool). is_first t s || not b) clock ∙ or_true (is_first t s)

pub blamed_are_met : BlamedAreMet
blamed_are_met t s c blamed clock is apart =
    ap (λ (o : Option Change). met_by (is_told_of t s) o s) is
    ∙ ap (λ (b : Bool). cond (b && not (c.core == s.core)) (Some c) None) (told t s blamed clock)
    ∙ ap (λ (b : Bool). cond (not b) (Some c) None) (ne_eqb c.core s.core apart)
