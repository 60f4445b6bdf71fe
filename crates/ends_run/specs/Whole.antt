-- Lists of calls and endpoint calls, made by threads.
use Rattle.core_runs.specs.core_kernel.specs.flight_laws.specs.core_invariant.specs as low
use Rattle.std.specs.Prelude.{◌≡◌, ◌<◌, ◌^◌}
use low.{ℕ, List, [], length, map, slice_get, slice_index, get_or as slice_index_or, Some, Call, Setting, HasCalls, Trace}
use Rattle.core_runs.specs.core_kernel.specs.{CoreSeatValue, AreAllSeats, HasSeen, ExtendsByOthers}
use Rattle.ends_run.specs.{declared.whole.EndsRan.EndsRan, declared.whole.Listed.Listed, Ends.EndsHistory}
use Rattle.{async_ends.specs.sent_to, async_ends.specs.untaken, core_runs.specs.core_kernel.specs.flight_laws.specs.Histories.IsHistory}
use Rattle.{core_runs.specs.Whole.decisions_below, async_ends.specs.declared.asks.EndAsk.EndAsk}
pub use Rattle.ends_runners.specs.Runners.{FewCalls, FewAsks}

-- The lists are made: there is one trace that has their calls, once and in order, and all have returned. Each seat of the kernel has
-- seen it, with steps of other cores alone after it. The decisions are its own.
pub record AreListed (setup : Setting) (lists : List (List Call)) (l : Listed) : Type 0 where
  pub setup_is : l.kernel.setup ≡ setup
  pub all : AreAllSeats l.kernel l.seats.items
  pub first : Trace
  pub history : IsHistory setup first
  pub calls : HasCalls lists first
  pub seen : (k : ℕ) (s : CoreSeatValue) → slice_get l.seats.items k ≡ Some s → ExtendsByOthers k first s.seen × HasSeen s
  pub decisions : l.decisions.items ≡ decisions_below first setup.cores

-- The calls of an endpoint history, as lists and numbers.
pub record AreEnded (setup : Setting) (lists : List (List Call)) (asks : List (List EndAsk)) (ran : EndsRan) : Type 0 where
  pub ends : EndsHistory setup lists asks
  pub decisions : ran.decisions.items ≡ decisions_below ends.first setup.cores
  pub count : length ran.done.items ≡ setup.cores
  pub done : (c : ℕ) → c < setup.cores → slice_index_or (map (λ v. v.items) ran.done.items) c [] ≡ (ends.made c).done
  pub few : (c : ℕ) → length (slice_index_or (map (λ v. v.items) ran.done.items) c []) < 2 ^ 32
  pub sent : (f : ℕ) → slice_index ran.sent.items f ≡ sent_to ends.events f
  pub left : (f : ℕ) → slice_index ran.left.items f ≡ untaken ends.events f
  pub sent_count : length ran.sent.items ≡ 512
  pub left_count : length ran.left.items ≡ 512
