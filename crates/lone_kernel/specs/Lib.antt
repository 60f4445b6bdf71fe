-- What the crates above name through this one.
pub use Rattle.step_views.specs.word_map
pub use Rattle.step_views
pub use Rattle.boot_words.specs.kernel_rules
pub use Rattle.boot_words.specs.kernel_history
pub use Rattle.flight_laws.specs.trace_laws
pub use Rattle.call_steps.specs.call_stages
pub use Rattle.flight_laws.specs.core_invariant
pub use Rattle.flight_laws.specs.flight
pub use Rattle.flight_laws
-- Its own.
pub mod Machine
pub mod Stands
pub mod Moves
pub mod GivenSteps
pub mod Inside
pub mod Shown
pub mod Items
pub mod Making
-- The names that are used most outside of this library.
pub use Rattle.lone_kernel.specs.Items.{IsAt}
pub use Rattle.lone_kernel.specs.Machine.{core_at, IsFit, seat_at, IsFinished, core_in, list_at, turn_at, IsDone, IsFitSeat, found_by, turn_of, begun_by, due_in}
pub use Rattle.lone_kernel.specs.Machine.{fresh_seat, stepped, IsInCall, IsThere, seat_after, turn_if, AreLists, CanTake, decisions_in, due_at, place_next, said_by}
pub use Rattle.lone_kernel.specs.Moves.{GoesFurther, StepsOnce, calls_left, GoesBy, calls_begun}
pub use Rattle.lone_kernel.specs.Stands.{StandsFor}
