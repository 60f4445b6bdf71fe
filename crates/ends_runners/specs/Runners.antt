-- Runners of seats and lists, and what becomes of them.
use Rattle.std.specs.Prelude.{◌≡◌, ◌≤◌}
use Rattle.core_kernel.specs.flight_laws.specs.core_invariant.specs.{ℕ, false, List, [], length, map, slice_get}
use Rattle.core_kernel.specs.flight_laws.specs.core_invariant.specs.{get_or as slice_index_or, Some, Call}
use Rattle.async_ends.specs.{declared.asks.EndAsk.EndAsk, declared.asks.EndDone.EndDone, Tables.EndSeatValue}
use Rattle.{std.specs.Global.Vec, core_kernel.specs.Kernel.CoreSeatValue, ends_runners.specs.Runs.EndRunnerValue}

-- The endpoint calls that a core is to make.
abbrev pub asks_of : List (List EndAsk) → ℕ → List EndAsk
asks_of asks c = slice_index_or asks c []

-- A list has so few calls that a core can make as many and its endpoint calls.
abbrev pub FewCalls : Vec Call → Type 0
FewCalls v = length v.items ≤ 4194304

abbrev pub FewAsks : Vec EndAsk → Type 0
FewAsks v = length v.items ≤ 4194304

-- A runner with these seats and these calls, none of which it has made.
pub record IsReady (seats : List CoreSeatValue) (ends : List EndSeatValue) (asks : List (List EndAsk)) (k : ℕ) (r : EndRunnerValue)
    : Type 0 where
  pub seat : slice_get seats k ≡ Some r.who
  pub end : slice_get ends k ≡ Some r.seat
  pub asked : r.asks ≡ asks_of asks k
  pub none : r.done ≡ []
  pub free : r.held ≡ false

-- The runners of these seats, each with the endpoint calls of its place.
pub record AreEndRunners (seats : List CoreSeatValue) (ends : List EndSeatValue) (asks : List (List EndAsk))
    (runners : List EndRunnerValue) : Type 0 where
  pub count : length runners ≡ length seats
  pub each : (k : ℕ) (r : EndRunnerValue) → slice_get runners k ≡ Some r → IsReady seats ends asks k r

-- The seats and the calls of runners.
pub record AreParts (runners : List EndRunnerValue) (seats : List CoreSeatValue) (ends : List EndSeatValue) (done : List (List EndDone))
    : Type 0 where
  pub seats_are : seats ≡ map (λ r. r.who) runners
  pub ends_are : ends ≡ map (λ r. r.seat) runners
  pub done_are : done ≡ map (λ r. r.done) runners
