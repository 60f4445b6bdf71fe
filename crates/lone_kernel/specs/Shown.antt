-- What a machine shows of the step that a core makes next, and tells of one that it has made.
use Rattle.std.specs.Prelude.{◌≡◌, ◌∷◌}
use Rattle.flight_laws.specs.core_invariant.specs.{ℕ, List, slice_index, Option, Some, None, Shape, Step, Trace, IsIdle, shape_of}
use Rattle.flight_laws.specs.core_invariant.specs.{Absorbed}
use Rattle.flight_laws.specs.flight.specs.{IsMadeStep, step_of}
use Rattle.step_views.specs.{IsShown, IsTold, declared.views.StepMade.StepMade, declared.views.StepView.StepView}
use Rattle.lone_kernel.specs.{declared.seats.Seat.Seat, declared.seats.Turn.Turn, Machine.Machine, Machine.core_at, Machine.turn_at}
use Rattle.lone_kernel.specs.{Machine.core_in, Machine.enters_as, Machine.place_next, Machine.said_by, Machine.found_by, Machine.stepped}
use Rattle.lone_kernel.specs.{Machine.step_in, Stands.StandsFor, Moves.StaysIdle}

-- The view shows the step of a seat's core at this turn, over these words.
abbrev pub IsNextView : Shape → Seat → Turn → List ℕ → StepView → Type 0
IsNextView shape seat f words v =
    IsShown shape v (step_of seat.state.own.core (enters_as f) (core_in seat.state f)
    (slice_index words (place_next shape (core_in seat.state f))))

-- The view shows the step that core c makes next: at its turn, and in each trace for which the machine stands.
pub record ShowsNext (m : Machine) (c : ℕ) (v : StepView) : Type 0 where
  pub turn : Turn
  pub begins : turn_at m c ≡ Some turn
  pub shown : IsShown (shape_of m.setup) v (step_in m c turn)
  pub made : (t : Trace) → StandsFor m t → IsMadeStep m.setup t (step_in m c turn)

-- The machine is that after core c's step at turn f, of which this is told.
pub record Steps (m m' : Machine) (c : ℕ) (f : Turn) (said : Absorbed) : Type 0 where
  pub after : m' ≡ stepped m c f
  pub told : said ≡ said_by (core_in (core_at m c) f) (found_by m c f)

-- Core c was not idle after t, and the machine goes on to t with the step of c that is told.
pub record TellsStep (m m' : Machine) (c : ℕ) (made : StepMade) (t : Trace) : Type 0 where
  pub busy : IsIdle m.lists t c → ⊥
  pub step : Step
  pub own : step.core ≡ c
  pub told : IsTold (shape_of m.setup) made step
  pub stands : StandsFor m' (step ∷ t)

-- An idle core stays so, where none is told; else each trace goes on by the step that is told.
abbrev pub TellsBy : Option StepMade → Machine → Machine → ℕ → Type 0
TellsBy None m m' c = StaysIdle m m' c
TellsBy (Some made) m m' c = (t : Trace) → StandsFor m t → TellsStep m m' c made t
