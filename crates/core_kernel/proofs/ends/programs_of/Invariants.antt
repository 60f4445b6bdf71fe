use Rattle.core_kernel.specs.Turns.{ArePrograms}
use Rattle.core_kernel.proofs.ends.programs_of.Given as goal

abbrev pub invariant-loop-core : goal.invariant-loop-core
invariant-loop-core l = ArePrograms l.setup l.core l.programs.items
