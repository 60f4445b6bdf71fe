-- The lists of a script can be run: their calls are within their limits, and few.
use Rattle.trace_run.specs.lone_kernel.specs.flight.proofs.{ℕ, ◌<◌, ◌^◌, List, All, length, arith, Call, InLimits}
use Rattle.{load_maker.specs.script_reader.specs.Readings.AtMost, trace_run.specs.lone_kernel.specs.Machine.AreLists}

pub accepted : (n : ℕ) (lists : List (List Call)) → All (All InLimits) lists → All (AtMost n) lists → n < 2 ^ 32 → AreLists lists
accepted n lists within most small = λ k d h. let few = most k d h in (within k d h, omega arith)

-- lists of a script of fewer than 2^29 bytes are shorter than that
pub few_lists : (n : ℕ) (lists : List (List Call)) → All (AtMost n) lists → n < 536870912 → All (λ calls. length calls < 536870912) lists
few_lists n lists most small = λ k d h. let few = most k d h in omega arith
