use Rattle.std.proofs.Common.{◌≡◌, ℕ, ◌+◌, length, take, slice_index}
use Rattle.ends_runners.specs.Tallies.{sends_among}
use Rattle.ends_runners.proofs.tallies.add_sends.Given as goal

abbrev pub invariant-loop-one : goal.invariant-loop-one
invariant-loop-one l = record {
  size : length l.sent.items ≡ 512;
  adds : (f : ℕ) → slice_index l.sent.items f ≡ slice_index l.initial.sent.items f + sends_among (take l.one-index l.done) f;
}
