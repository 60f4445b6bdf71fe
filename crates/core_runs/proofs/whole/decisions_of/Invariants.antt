use Rattle.{std.proofs.Common.◌≡◌, std.proofs.Common.take, std.proofs.Common.flat_map, core_runs.specs.Whole.decided}
use Rattle.core_runs.proofs.whole.decisions_of.Given as goal

abbrev pub invariant-loop-runner : goal.invariant-loop-runner
invariant-loop-runner l = l.decisions.items ≡ flat_map decided (take l.runner-index l.runners)
