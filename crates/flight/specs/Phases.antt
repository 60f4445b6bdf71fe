-- Where the cores of the machine stand, and the phases of the trace that has brought them there.
use Rattle.std.specs.Prelude.{◌≡◌, ◌≢◌, ◌<◌, ◌≤◌}
use Rattle.work_invariant.specs.core_invariant.specs.{[], ℕ, true, false, Option, None, IsSome, Setting, IsSetting}
use Rattle.work_invariant.specs.core_invariant.specs.{Reply, IsIn, word_of, Step, Trace, Phase, Out, phase, calls_of, Core, move_of}
use Rattle.work_invariant.specs.core_invariant.specs.{ready_of, IsCore}
use Rattle.work_invariant.specs.boot_words.specs.kernel_history.specs.Order.{IsDecided}
use Rattle.flight.specs.{Decided.is_decided_in, Made.core_after, Made.cores_after, Made.stepping_core, Made.IsMade, Made.IsMadeStep}

-- The next step of a core in a call is on a word of its machine.
abbrev pub MovesAreWords : Type 0
MovesAreWords = (core : Core) → IsCore core → IsSome core.active → IsIn core.own.layout (word_of (move_of core))

-- A core has a call in flight exactly where it is in a call in this phase, and that is decided exactly where it is in the phase.
pub record IsInPhase (core : Core) (p : Phase) : Type 0 where
  pub out : core.active ≡ None → p ≡ Out
  pub in_call : core.active ≢ None → p ≢ Out
  pub decided : is_decided_in core.active ≡ true → IsDecided p
  pub was_decided : IsDecided p → is_decided_in core.active ≡ true

-- After a trace that is the machine's, each core stands in its phase.
abbrev pub MadePhases : Type 0
MadePhases = (setup : Setting) → IsSetting setup → (t : Trace) → IsMade setup t → (c : ℕ) → c < setup.cores → IsInPhase
    (cores_after setup t c) (phase t c)

-- No step of the trace is of this core.
pub record IsNoneOf (t : Trace) (c : ℕ) : Type 0 where
  pub out : phase t c ≡ Out
  pub none : calls_of t c ≡ []

-- In a trace that is the machine's no step is of a core that the machine has not.
abbrev pub MadeOfItsCores : Type 0
MadeOfItsCores = (setup : Setting) (t : Trace) → IsMade setup t → (c : ℕ) → setup.cores ≤ c → IsNoneOf t c

-- What the events of a step say of the core before it and after it: an undecided call is decided by the step that decides, and a
-- call in flight has returned by the step that returns.
pub record AreEvents (before after : Core) (decides returns : Option Reply) : Type 0 where
  pub decides_now : is_decided_in before.active ≡ false → is_decided_in after.active ≡ true → IsSome decides
  pub decides_none : after.active ≢ None → is_decided_in after.active ≡ false → decides ≡ None
  pub returns_now : after.active ≡ None → IsSome returns
  pub returns_none : after.active ≢ None → returns ≡ None

-- The events of a step of the machine are those of its core.
abbrev pub MadeEvents : Type 0
MadeEvents = (setup : Setting) (t : Trace) (e : Step) → IsMadeStep setup t e → AreEvents (stepping_core setup t e)
    (core_after (stepping_core setup t e) e.found) e.decides e.returns

-- A core whose call is decided is ready.
abbrev pub DecidedIsReady : Type 0
DecidedIsReady = (core : Core) → is_decided_in core.active ≡ true → ready_of core ≡ true
