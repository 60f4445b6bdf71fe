use Rattle.std.proofs.Common.{◌≡◌, map}
use Rattle.ends_runners.proofs.parts.parts_of.Given as goal

abbrev pub invariant-loop-runner : goal.invariant-loop-runner
invariant-loop-runner l = record {
  seats : l.seats.items ≡ map (λ r. r.who) l.yielded;
  ends : l.ends.items ≡ map (λ r. r.seat) l.yielded;
  done : map (λ v. v.items) l.all.items ≡ map (λ r. r.done) l.yielded;
}
