-- The families of calls.
use Rattle.plain_kernel.specs.declared.families.Family.TheVariants.{Caps, Memory, Time}
use Rattle.{seq_caps.specs.spk_nums.specs.declared.calls.Call.Call, seq_caps.specs.Own.IsCapCall, seq_memory.specs.Own.IsMemoryCall}
use Rattle.{seq_time.specs.Own.IsTimeCall, plain_kernel.specs.declared.families.Family.Family}

-- A call is of a family.
abbrev pub IsOf : Family → Call → Type 0
IsOf Caps call = IsCapCall call
IsOf Memory call = IsMemoryCall call
IsOf Time call = IsTimeCall call
