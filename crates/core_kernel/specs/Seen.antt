-- What the entries of the shared table are as a trace of the kernel: each is a step of the step machine, made by its core's state
-- with the word found.
use Rattle.std.specs.Prelude.{◌≡◌, ◌<◌, ◌∷◌}
use Rattle.flight_laws.specs.core_invariant.specs.{ℕ, List, [], length, slice_get, Some, None, Call, Setting, Word, IsIn}
use Rattle.flight_laws.specs.core_invariant.specs.{size_of, shape_of, boot_word, word_in, Step, Trace, Core, started}
use Rattle.flight_laws.specs.flight.specs.{turned, step_of, cores_after}
use Rattle.turn_rule.specs.{declared.view.Entry.Entry, declared.view.Start.Start}
use Rattle.core_kernel.specs.{declared.core_run.CoreRun.CoreRun, Running.run_of}

-- The core that makes the step of an entry after a trace, its call begun.
abbrev pub core_by : Setting → Trace → Entry Call → Core
core_by setup t e = turned e.call (cores_after setup t e.core)

-- The step of an entry after a trace: that which its core makes of the word found.
abbrev pub step_by : Setting → Trace → Entry Call → Step
step_by setup t e = step_of e.core e.call (core_by setup t e) e.found

-- The kernel's trace of the entries.
abbrev pub trace_of : Setting → List (Entry Call) → Trace
trace_of setup [] = []
trace_of setup (e ∷ t) = step_by setup (trace_of setup t) e ∷ trace_of setup t

-- The table began with the boot words and, for each core, its state at the start.
pub record IsStart (setup : Setting) (start : Start CoreRun) : Type 0 where
  pub size : length start.words ≡ size_of (shape_of setup)
  pub words : (w : Word) → IsIn (shape_of setup) w → word_in (shape_of setup) start.words w ≡ boot_word setup w
  pub count : length start.programs ≡ setup.cores
  pub each : (c : ℕ) → c < setup.cores → slice_get start.programs c ≡ Some (run_of (started c setup) None)
