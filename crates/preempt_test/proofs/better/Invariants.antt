use Rattle.{std.proofs.Common.◌≡◌, std.proofs.Common.drop, spk_nums.specs.Merging.is_better}
use Rattle.preempt_test.proofs.better.Given as goal

abbrev pub invariant-pairs : goal.invariant-pairs
invariant-pairs l = is_better l.a l.b ≡ is_better (drop l.i l.a) l.b
