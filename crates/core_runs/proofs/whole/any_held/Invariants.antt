use Rattle.std.proofs.Common.{◌≡◌, false, take, All}
use Rattle.core_runs.proofs.whole.any_held.Given as goal

abbrev pub invariant-loop-runner : goal.invariant-loop-runner
invariant-loop-runner l = All (λ r. r.held ≡ false) (take l.runner-index l.runners)
