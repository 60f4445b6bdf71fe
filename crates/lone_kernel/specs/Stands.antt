-- When a machine stands for a trace.
use Rattle.std.specs.Prelude.{◌≡◌, ◌<◌}
use Rattle.flight_laws.specs.core_invariant.specs.{ℕ, take, slice_index, Word, IsIn, place_of, Trace, last_left, calls_of}
use Rattle.flight_laws.specs.core_invariant.specs.{decisions_of, shape_of}
use Rattle.flight_laws.specs.flight.specs.{cores_after, IsMade}
use Rattle.lone_kernel.specs.Machine.{Machine, core_at, seat_at, list_at}

-- The machine stands for the trace: each step of it is the step machine's, its cores are where the trace brings them, its words are
-- those last left, each core has entered the calls that it has begun, and the decisions are those of the trace.
pub record StandsFor (m : Machine) (t : Trace) : Type 0 where
  pub made : IsMade m.setup t
  pub cores : (c : ℕ) → c < m.setup.cores → core_at m c ≡ cores_after m.setup t c
  pub words : (w : Word) → IsIn (shape_of m.setup) w → slice_index m.words (place_of (shape_of m.setup) w) ≡ last_left m.setup t w
  pub calls : (c : ℕ) → c < m.setup.cores → calls_of t c ≡ take (seat_at m c).begun (list_at m c)
  pub decisions : m.decisions ≡ decisions_of t
