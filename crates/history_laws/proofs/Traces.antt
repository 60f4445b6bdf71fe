-- What a law of each moment, each step or each stretch of a trace says of the whole trace, of its newest step and of its newest steps.
use Rattle.kernel_history.proofs.{◌≡◌, ℕ, true, [], ◌∷◌, refl, sym, take, drop, KeepsDiscipline, IsLegal, two_cores, Step}
use Rattle.history_laws.specs.{AtEachMoment, AtEachStep, OfEachStretch}
use Rattle.kernel_history.proofs.Computed.{is_within, keeps_bounds, is_in_it, keeps_footprints}
use Rattle.{std.proofs.lemmas.List.take-append-drop, kernel_history.specs.Trace.Trace, history_laws.specs.Refusals.Breaks}

pub whole : (Law : Trace → Type 0) (t : Trace) → AtEachMoment Law t → Law t
whole Law t law = law [] t refl

abbrev pub OfNewest : (Trace → Step → Type 0) → Trace → Type 0
OfNewest Law [] = Unit {0}
OfNewest Law (e ∷ t) = Law t e

pub newest : (Law : Trace → Step → Type 0) (t : Trace) → AtEachStep Law t → OfNewest Law t
newest Law [] law = tt
newest Law (e ∷ t) law = law [] e t refl

pub since : (Law : Trace → Trace → Type 0) (n : ℕ) (t : Trace) → OfEachStretch Law t → Law (take n t) (drop n t)
since Law n t law = law [] (take n t) (drop n t) (sym (take-append-drop n t))

-- A law refuses a trace that all else permits which the checker computes.
pub breaks : (Law : Trace → Type 0) (t : Trace) → IsLegal two_cores t → is_in_it two_cores t ≡ true → is_within 2 t ≡ true
    → KeepsDiscipline two_cores t → (Law t → ⊥) → Breaks Law t
breaks Law t legal footprint within discipline refused = record {
  legal = legal;
  footprint = keeps_footprints two_cores t footprint;
  within = keeps_bounds 2 t within;
  discipline = discipline;
  refused = refused;
}
