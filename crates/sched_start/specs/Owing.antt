-- What core 0 owes before a schedule begins.
use Rattle.std.specs.Prelude.{◌≡◌, ◌<◌}
use Rattle.kernel_laws.specs.kernel_rules.specs.{ℕ, List, All, Ok, Setting, InLimits, Call, Tick, start, plain_steps}
use Rattle.sched_reader.specs.{Input, input_of}

-- The call is no `tick`.
abbrev pub IsNoTick : Call → Type 0
IsNoTick (Tick n) = ⊥
IsNoTick call = Unit {0}

-- Core 0 owes nothing after calls within their limits that it makes alone from the start, of which none is a `tick`.
abbrev pub OwesNothing : Type 0
OwesNothing = (setting : Setting) → 0 < setting.cores → (calls : List Call) → All InLimits calls → All IsNoTick calls
    → ((plain_steps (start setting) 0 calls).core 0).owed ≡ 0

-- A script that is read with tasks after it has no `tick`.
abbrev pub TakesNoTick : Type 0
TakesNoTick = (source : List ℕ) (input : Input) → input_of source ≡ Ok input → All (All IsNoTick) input.script.lists
