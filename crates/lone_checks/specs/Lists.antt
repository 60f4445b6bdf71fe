-- Lists of calls that can be run.
use Rattle.std.specs.Prelude.{◌<◌, ◌^◌}
use Rattle.lone_kernel.specs.core_invariant.specs.{List, All, length, InLimits, Call}

-- A list can be run: its calls are in their limits, and fewer than 2^32.
abbrev pub IsRunnable : List Call → Type 0
IsRunnable calls = All InLimits calls × (length calls < 2 ^ 32)
