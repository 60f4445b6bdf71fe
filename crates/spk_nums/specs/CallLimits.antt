use Rattle.std.specs.Prelude.{◌^◌, ◌<◌, ◌≤◌}
use Rattle.spk_nums.specs.declared.calls.Make.{Make}
use Rattle.spk_nums.specs.declared.calls.Make.TheVariants.{Tcap, Comp}
use Rattle.spk_nums.specs.declared.calls.Call.{Call}
use Rattle.spk_nums.specs.declared.calls.Call.TheVariants.{Copy, Make as make_call, Map, Tick}

-- an object to make has its scheduler, quality and liveness number in range
abbrev pub MakeInLimits : Make → Type 0
MakeInLimits (Tcap sched quality) = (sched < 64) × (1 ≤ quality) × (quality < 2 ^ 24)
MakeInLimits (Comp table pages live) = live < 64
MakeInLimits _ = Unit {0}

-- a call has its rights, ticks, flags, scheduler, quality and liveness number in range, as far as it has them
abbrev pub InLimits : Call → Type 0
InLimits (Copy a t b rights) = rights.0 < 4
InLimits (make_call what range frame table slot) = MakeInLimits what
InLimits (Map p v r f w) = w.0 < 4
InLimits (Tick n) = n ≤ 1000000
InLimits _ = Unit {0}
