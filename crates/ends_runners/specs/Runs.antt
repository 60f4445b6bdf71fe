-- What runners of endpoint calls do.
use Rattle.std.specs.Prelude.{◌≡◌, ◌+◌, ◌<◌, ◌≤◌, ◌^◌, ◌++◌}
use Rattle.core_kernel.specs.flight_laws.specs.core_invariant.specs.{ℕ, Bool, true, false, List, [], take}
use Rattle.core_kernel.specs.flight_laws.specs.core_invariant.specs.{length, map, Call, Trace, calls_of}
use Rattle.async_ends.specs.{Event, events_by, history_of, EndTableValue, EndSeatValue, AreStepsOfAll}
use Rattle.core_kernel.specs.{replies_of, CoreSeatValue, HasSeen}
use Rattle.async_ends.specs.{declared.asks.EndAsk.EndAsk, declared.asks.EndDone.EndDone}

-- The look of an endpoint call.
abbrev pub look_call : EndDone → Call
look_call d = Call.Look d.ask.number

-- A runner as contracts see it: its seats, its calls, those made so far, how many calls its list has, and whether the gate has stopped it.
pub record EndRunnerValue : Type 0 where
  pub who : CoreSeatValue
  pub seat : EndSeatValue
  pub asks : List EndAsk
  pub done : List EndDone
  pub listed : ℕ
  pub held : Bool

-- A runner's calls are few enough, also with those of its list, and there is room for each.
pub record IsEndRunner (asks : List EndAsk) (listed room : ℕ) : Type 0 where
  pub few : length asks ≤ 4194304
  pub fit : listed + length asks < 2 ^ 32
  pub room_for_all : length asks ≤ room

-- The runner is of this table, its two seats are of one core, and it has made no call yet.
pub record AwaitsEnds (table : EndTableValue) (runner : EndRunnerValue) : Type 0 where
  pub seen : HasSeen runner.who
  pub table_is : runner.seat.table ≡ table
  pub frames : 512 ≤ table.frames
  pub core : runner.seat.core ≡ runner.who.core
  pub fresh : runner.seat.made ≡ 0
  pub none : runner.done ≡ []
  pub free : runner.held ≡ false

-- The runner has made the calls that it tells as done, in order: its seats have gone on by their looks and their events. Each call's
-- answer is that of its events, the first of which has its look.
pub record HasDone (runner now : EndRunnerValue) : Type 0 where
  pub since : Trace
  pub begins : now.who.seen ≡ since ++ runner.who.seen
  pub looked : calls_of since runner.who.core ≡ map look_call now.done
  pub replied : replies_of since runner.who.core ≡ map (λ d. d.looked) now.done
  pub events : List Event
  pub made : AreStepsOfAll runner.who.core now.done events
  pub grown : events_by (history_of now.seat.seen) runner.who.core ≡ events_by (history_of runner.seat.seen) runner.who.core ++ events
  pub list : now.asks ≡ runner.asks
  pub core : now.who.core ≡ runner.who.core
  pub kernel : now.who.kernel ≡ runner.who.kernel
  pub seen : HasSeen now.who
  pub seat_core : now.seat.core ≡ runner.seat.core
  pub table : now.seat.table ≡ runner.seat.table

-- The runner has made the first calls of its list in order. It has made all of them where it is not held, and is not held where the
-- gate is free.
pub record MakesAsks (gate_is_free : Bool) (runner after : EndRunnerValue) : Type 0 where
  pub does : HasDone runner after
  pub asked : map (λ d. d.ask) after.done ≡ take (length after.done) runner.asks
  pub within : length after.done ≤ length runner.asks
  pub whole : after.held ≡ false → length after.done ≡ length runner.asks
  pub free : gate_is_free ≡ true → after.held ≡ false
