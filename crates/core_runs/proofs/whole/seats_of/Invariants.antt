use Rattle.std.proofs.Common.{◌≡◌, map}
use Rattle.core_runs.proofs.whole.seats_of.Given as goal

abbrev pub invariant-loop-runner : goal.invariant-loop-runner
invariant-loop-runner l = l.seats.items ≡ map (λ r. r.seat) l.yielded
