-- When the calls of a machine are decided: what it is for a core to be ready. Which cores are ready after a trace, the machine tells.
use Rattle.std.specs.Prelude.{◌≡◌}
use Rattle.kernel_history.specs.{ℕ, Bool, true, false, Some, IsSome, Call, Reply, Step, phase}
use Rattle.{state_laws.specs.kernel_rules.specs.Laws.IsRefusal, kernel_history.specs.Trace.Trace, kernel_history.specs.Trace.Open}

-- The step e after t decides where its core's call is open and ready there, whatever word it finds.
abbrev pub ReadyDecides : (Trace → ℕ → Bool) → Trace → Step → Type 0
ReadyDecides ready t e = (call : Call) → phase t e.core ≡ Open call → ready t e.core ≡ true → IsSome e.decides

-- Where its core is not ready there, what the step decides, if it decides, is a refusal.
abbrev pub UnreadyRefuses : (Trace → ℕ → Bool) → Trace → Step → Type 0
UnreadyRefuses ready t e = (r : Reply) → ready t e.core ≡ false → e.decides ≡ Some r → IsRefusal r
