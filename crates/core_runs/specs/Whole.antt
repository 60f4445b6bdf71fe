-- Whole lists of calls, made by threads.
use Rattle.std.specs.Prelude.{◌≡◌, ◌+◌, ◌<◌, ◌^◌, ◌∷◌, ◌++◌}
use Rattle.core_kernel.specs.flight_laws.specs.core_invariant.specs.{ℕ, zero, suc, Bool, false, List, []}
use Rattle.core_kernel.specs.flight_laws.specs.core_invariant.specs.{length, slice_get, get_or as slice_index_or, Some, All, InLimits, Call}
use Rattle.core_kernel.specs.flight_laws.specs.core_invariant.specs.{Reply, Decision, Setting, size_of, shape_of, RepresentCounts}
use Rattle.core_kernel.specs.flight_laws.specs.core_invariant.specs.{Represent, word_in, end_in, HasCalls, decisions_by, Trace, state_after}
use Rattle.core_runs.specs.{declared.whole.Ran.Ran, Runs.RunnerValue}
use Rattle.{core_kernel.specs.flight_laws.specs.Histories.IsHistory, core_kernel.specs.Kernel.CoreSeatValue}

-- The decisions of core c with these replies, numbered from the index on.
abbrev pub numbered : ℕ → ℕ → List Reply → List Decision
numbered c index [] = []
numbered c index (r ∷ rs) = record { core = c; index = index; reply = r } ∷ numbered c (index + 1) rs

-- The decisions of a runner's core.
abbrev pub decided : RunnerValue → List Decision
decided r = numbered r.seat.core 1 r.replies

-- The decisions of core 0, then of core 1 and so on, of n cores in all.
abbrev pub decisions_below : Trace → ℕ → List Decision
decisions_below t zero = []
decisions_below t (suc n) = decisions_below t n ++ decisions_by t n

-- The calls of a list can be made, and are fewer than 2^32.
pub record IsList (calls : List Call) : Type 0 where
  pub fit : All InLimits calls
  pub few : length calls < 2 ^ 32

-- A runner that waits with this seat and this list.
pub record IsReady (seats : List CoreSeatValue) (lists : List (List Call)) (k : ℕ) (r : RunnerValue) : Type 0 where
  pub seat : slice_get seats k ≡ Some r.seat
  pub calls : r.calls ≡ slice_index_or lists k []
  pub none : r.replies ≡ []
  pub free : r.held ≡ false

-- The runners of these seats, each with the list of its place.
pub record AreRunners (seats : List CoreSeatValue) (lists : List (List Call)) (runners : List RunnerValue) : Type 0 where
  pub count : length runners ≡ length seats
  pub each : (k : ℕ) (r : RunnerValue) → slice_get runners k ≡ Some r → IsReady seats lists k r

-- There is one history of the machine that has the calls of the lists once and in order; the decisions are its own, core 0's
-- first; and the closed words and ends represent the state that it leaves, the count words the references to its frames.
pub record AreMade (setup : Setting) (lists : List (List Call)) (ran : Ran) : Type 0 where
  pub trace : Trace
  pub history : IsHistory setup trace
  pub calls : HasCalls lists trace
  pub decisions : ran.decisions.items ≡ decisions_below trace setup.cores
  pub layout : ran.closed.layout ≡ shape_of setup
  pub represent : Represent (word_in (shape_of setup) ran.closed.words.items) (end_in ran.closed.ends.items) (state_after setup trace)
  pub counts : RepresentCounts (word_in (shape_of setup) ran.closed.words.items) (state_after setup trace)
  pub word_count : length ran.closed.words.items ≡ size_of (shape_of setup)
  pub end_count : length ran.closed.ends.items ≡ setup.cores
