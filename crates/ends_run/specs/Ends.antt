-- Lists of calls, and the endpoint calls that are made after them.
use Rattle.std.specs.Prelude.{◌≡◌, ◌+◌, ◌++◌}
use Rattle.core_runs.specs.core_kernel.specs.flight_laws.specs.core_invariant.specs.{ℕ, List, map, Call, Setting, HasCalls}
use Rattle.core_runs.specs.core_kernel.specs.flight_laws.specs.core_invariant.specs.{Trace, Out, phase, calls_of}
use Rattle.async_ends.specs.{Event, IsLegal, events_by, sent_to, taken_at, untaken, AreStepsOfAll}
use Rattle.ends_runners.specs.{look_call, asks_of}
use Rattle.async_ends.specs.{declared.asks.EndAsk.EndAsk, declared.asks.EndDone.EndDone, Events.AreCrossed}
use Rattle.{core_runs.specs.core_kernel.specs.flight_laws.specs.Histories.IsHistory, core_runs.specs.core_kernel.specs.Replies.replies_of}

-- Core c's endpoint calls: one look for each, in order, in the trace that follows the lists; and in the endpoint history their events,
-- in order, none of a call that was refused. They are at the frame to which the call's own look led, and the first of them has that look:
-- its step was begun with what the look had been answered. Each answer is that of the call's events, or its look's refusal.
pub record MakesAsked (c : ℕ) (asks : List EndAsk) (looks : Trace) (events : List Event) : Type 0 where
  pub done : List EndDone
  pub asked : map (λ d. d.ask) done ≡ asks
  pub looked : calls_of looks c ≡ map look_call done
  pub replied : replies_of looks c ≡ map (λ d. d.looked) done
  pub made : AreStepsOfAll c done (events_by events c)

-- There is one trace that is a history of the machine. In its first part, after which all cores are between calls, are the calls of the
-- lists, once and in order; after all of these come the looks of the endpoint calls, and nothing else. Beside it there is one legal
-- endpoint history, which has the steps of the endpoint calls, and no others; each receive in it that was raced was crossed by another
-- core between its two steps.
pub record EndsHistory (setup : Setting) (lists : List (List Call)) (asks : List (List EndAsk)) : Type 0 where
  pub first : Trace
  pub looks : Trace
  pub history : IsHistory setup (looks ++ first)
  pub calls : HasCalls lists first
  pub returned : (c : ℕ) → phase (looks ++ first) c ≡ Out
  pub events : List Event
  pub legal : IsLegal events
  pub crossed : AreCrossed events
  pub made : (c : ℕ) → MakesAsked c (asks_of asks c) looks events
  pub balance : (f : ℕ) → untaken events f + taken_at events f ≡ sent_to events f
