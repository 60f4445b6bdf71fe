-- What runners do.
use Rattle.std.specs.Prelude.{◌≡◌, ◌≤◌, ◌<◌, ◌^◌, ◌++◌}
use Rattle.core_kernel.specs.flight_laws.specs.core_invariant.specs.{ℕ, Bool, true, false, List, [], take, length}
use Rattle.core_kernel.specs.flight_laws.specs.core_invariant.specs.{All, InLimits, Call, Reply, Trace, calls_of}
use Rattle.core_kernel.specs.{replies_of, KernelValue, CoreSeatValue, HasSeen}

-- A runner as contracts see it: its seat, its calls, the replies so far, and whether the gate has stopped it.
pub record RunnerValue : Type 0 where
  pub seat : CoreSeatValue
  pub calls : List Call
  pub replies : List Reply
  pub held : Bool

-- A runner's calls can be made and are fewer than 2^32, and there is room for a reply to each.
pub record IsRunner (calls : List Call) (room : ℕ) : Type 0 where
  pub fit : All InLimits calls
  pub few : length calls < 2 ^ 32
  pub room_for_all : length calls ≤ room

-- The runner is of this kernel, and has made no call yet.
pub record IsWaiting (of : KernelValue) (runner : RunnerValue) : Type 0 where
  pub kernel : runner.seat.kernel ≡ of
  pub none : runner.replies ≡ []
  pub free : runner.held ≡ false

-- The runner has made the first n calls of its list, and has not been held.
pub record HasMade (runner : RunnerValue) (n : ℕ) (now : RunnerValue) : Type 0 where
  pub since : Trace
  pub begins : now.seat.seen ≡ since ++ runner.seat.seen
  pub calls_are : calls_of since runner.seat.core ≡ take n runner.calls
  pub replies_are : replies_of since runner.seat.core ≡ now.replies
  pub count : length now.replies ≡ n
  pub free : now.held ≡ false
  pub list : now.calls ≡ runner.calls
  pub core : now.seat.core ≡ runner.seat.core
  pub kernel : now.seat.kernel ≡ runner.seat.kernel
  pub seen : HasSeen now.seat

-- The runner, with the same seat and list, has made the first calls of its list in order, each of which has returned, and has
-- their replies. It has made all of them where it is not held, and is not held where the gate is free.
pub record MakesCalls (gate_is_free : Bool) (runner after : RunnerValue) : Type 0 where
  pub since : Trace
  pub begins : after.seat.seen ≡ since ++ runner.seat.seen
  pub calls_are : calls_of since runner.seat.core ≡ take (length after.replies) runner.calls
  pub replies_are : replies_of since runner.seat.core ≡ after.replies
  pub within : length after.replies ≤ length runner.calls
  pub whole : after.held ≡ false → length after.replies ≡ length runner.calls
  pub free : gate_is_free ≡ true → after.held ≡ false
  pub list : after.calls ≡ runner.calls
  pub core : after.seat.core ≡ runner.seat.core
  pub kernel : after.seat.kernel ≡ runner.seat.kernel
  pub seen : HasSeen after.seat
