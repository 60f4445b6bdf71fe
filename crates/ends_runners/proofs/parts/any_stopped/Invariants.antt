use Rattle.std.proofs.Common.{◌≡◌, false, take, All}
use Rattle.ends_runners.proofs.parts.any_stopped.Given as goal

abbrev pub invariant-loop-runner : goal.invariant-loop-runner
invariant-loop-runner l = All (λ r. r.held ≡ false) (take l.runner-index l.runners)
