-- The steps of a whole call that a core's program makes itself.
use Rattle.std.specs.Prelude.{◌≡◌}
use Rattle.flight_laws.specs.core_invariant.specs.{ℕ, Option, Some, None, IfSome, InLimits, Call, told_of_step}
use Rattle.call_steps.specs.call_stages.specs.Fits.{IsCore}
use Rattle.call_steps.specs.call_stages.specs.declared.stages.Absorbed.{Absorbed}
use Rattle.core_kernel.specs.{declared.core_run.CoreRun.CoreRun, Running.running}

-- A core that may make a whole call: it is in its ranges, and between calls, and the call is in its limits.
pub record IsReady (p : CoreRun) (call : Call) : Type 0 where
  pub fits : IsCore p.state
  pub between : p.state.active ≡ None
  pub limits : InLimits call

-- What the step made last has told: the program that made it, and the word that it was told, say so.
abbrev pub said : Option (CoreRun × ℕ) → Absorbed
said None = Absorbed.Going
said (Some s) = told_of_step s.0.state s.1

-- The program's core is in its ranges, and the program is what the step made last has left.
pub record IsRun (p : CoreRun) (last : Option (CoreRun × ℕ)) : Type 0 where
  pub fits : IsCore p.state
  pub stepped : IfSome last (λ s. p ≡ running.after s.0 s.1)
