use Rattle.std.proofs.Common.{◌≡◌, ℕ, length, take, slice_index}
use Rattle.ends_runners.specs.Tallies.{sends_by}
use Rattle.ends_runners.proofs.tallies.sent_by.Given as goal

abbrev pub invariant-loop-runner : goal.invariant-loop-runner
invariant-loop-runner l = record {
  size : length l.sent.items ≡ 512;
  sent : (f : ℕ) → slice_index l.sent.items f ≡ sends_by (take l.runner-index l.runners) f;
}
