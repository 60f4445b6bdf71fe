-- The steps that the machine makes: a step of a core is a function of the core and of the word found, and where each core stands
-- after a trace is a function of the trace. So a trace is the machine's own, or it is not.
use Rattle.std.specs.Prelude.{◌≡◌, ◌<◌, ◌∷◌}
use Rattle.work_invariant.specs.core_invariant.specs.{Bool, ℕ, [], Option, Some, None, IsSome, InLimits, Setting, Call, Move}
use Rattle.work_invariant.specs.core_invariant.specs.{word_of, told_of, put, Step, Trace, last_left, Absorbed, Core, decided_in}
use Rattle.work_invariant.specs.core_invariant.specs.{returned_in, started, begun, move_of, ready_of, absorbed, told_of_step}

-- The cores of a machine that has just booted.
abbrev pub boot_cores : Setting → ℕ → Core
boot_cores setup c = started c setup

-- A core that makes a step, where a call may begin with it.
abbrev pub turned : Option Call → Core → Core
turned None core = core
turned (Some call) core = begun core call

-- A core may make a step: its call is in flight; or it is between calls, and a call begins that is in its limits.
pub record MayBegin (call : Call) (core : Core) : Type 0 where
  pub between : core.active ≡ None
  pub limits : InLimits call

abbrev pub MayStep : Option Call → Core → Type 0
MayStep None core = IsSome core.active
MayStep (Some call) core = MayBegin call core

-- The step of core c by its move, where it found this in its word, and this is told of it.
abbrev pub step_at : ℕ → Option Call → Move → ℕ → Absorbed → Step
step_at c enters move found said = record {
  core = c;
  move = move;
  found = found;
  enters = enters;
  decides = decided_in said;
  returns = returned_in said;
}

-- The step that core c makes where it finds this in the word of its move: at it a call may begin, and then the core is this.
abbrev pub step_of : ℕ → Option Call → Core → ℕ → Step
step_of c enters core found = step_at c enters (move_of core) found (told_of_step core (told_of (move_of core) found))

-- The core after it.
abbrev pub core_after : Core → ℕ → Core
core_after core found = absorbed core (told_of (move_of core) found)

-- Where each core stands after the trace: each step of it brings its core on, by what it found.
abbrev pub cores_after : Setting → Trace → ℕ → Core
cores_after setup [] = boot_cores setup
cores_after setup (e ∷ t) = put (cores_after setup t) e.core (core_after (turned e.enters (cores_after setup t e.core)) e.found)

-- The core that makes the step e after t, its call begun.
abbrev pub stepping_core : Setting → Trace → Step → Core
stepping_core setup t e = turned e.enters (cores_after setup t e.core)

-- The step e after t is the machine's: it is of one of its cores, which may make a step; it finds what was last left in its word;
-- and it is the one that the core makes for what it found.
pub record IsMadeStep (setup : Setting) (t : Trace) (e : Step) : Type 0 where
  pub is_core : e.core < setup.cores
  pub may : MayStep e.enters (cores_after setup t e.core)
  pub found : e.found ≡ last_left setup t (word_of e.move)
  pub made : e ≡ step_of e.core e.enters (stepping_core setup t e) e.found

-- Each step of the trace is the machine's.
abbrev pub IsMade : Setting → Trace → Type 0
IsMade setup [] = Unit {0}
IsMade setup (e ∷ t) = IsMade setup t × IsMadeStep setup t e

-- Whether a core is ready after the trace: its next step is the one at which its call's `ok` is decided, or its call has decided.
abbrev pub ready_after : Setting → Trace → ℕ → Bool
ready_after setup t c = ready_of (cores_after setup t c)
