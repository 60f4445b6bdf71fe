-- What the turns of a seat of the table are as steps of the kernel.
use Rattle.std.specs.Prelude.{◌≡◌, ◌<◌, ◌++◌}
use Rattle.flight_laws.specs.core_invariant.specs.{ℕ, List, length, map, slice_get, All, Some, None, IsSomeAnd, Call}
use Rattle.flight_laws.specs.core_invariant.specs.{Setting, Trace, calls_of, started}
use Rattle.turn_rule.specs.{SeatValue, FollowsTrace}
use Rattle.core_kernel.specs.{declared.core_run.CoreRun.CoreRun, Running.running, Running.run_of, Seen.trace_of, Replies.EndsWith}
use Rattle.core_kernel.specs.{Kernel.CoreSeatValue, Kernel.IsSeat, Kernel.seat_value}

-- Where the core is between calls, its newest step has just returned the reply that is kept.
abbrev pub HasReturned : Setting → SeatValue CoreRun Call → Type 0
HasReturned setup s = s.program.state.active ≡ None → IsSomeAnd s.program.last (λ r. EndsWith s.core r (trace_of setup s.seen))

-- The seat's trace goes on by steps in which its core begins these calls.
pub record GoesOn (setup : Setting) (seat : SeatValue CoreRun Call) (entered : List Call) (on : SeatValue CoreRun Call) : Type 0 where
  pub since : Trace
  pub begins : trace_of setup on.seen ≡ since ++ trace_of setup seat.seen
  pub calls : calls_of since seat.core ≡ entered
  pub core : on.core ≡ seat.core
  pub table : on.table ≡ seat.table
  pub follows : FollowsTrace running on
  pub returned : HasReturned setup on

-- The first n cores at the start.
pub record ArePrograms (setup : Setting) (n : ℕ) (programs : List CoreRun) : Type 0 where
  pub count : length programs ≡ n
  pub each : (c : ℕ) → c < n → slice_get programs c ≡ Some (run_of (started c setup) None)

-- The seats of a table, and the same ones as seats of its kernel.
pub record AreWrapped (setup : Setting) (turn_seats : List (SeatValue CoreRun Call)) (seats : List CoreSeatValue) : Type 0 where
  pub same : map (seat_value setup) turn_seats ≡ seats
  pub each : All (IsSeat setup) turn_seats
