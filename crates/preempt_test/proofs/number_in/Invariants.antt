use Rattle.{std.proofs.Common.◌≡◌, std.proofs.Common.drop, spk_nums.specs.Merging.number_of}
use Rattle.preempt_test.proofs.number_in.Given as goal

abbrev pub invariant-pairs : goal.invariant-pairs
invariant-pairs l = number_of l.list l.sched ≡ number_of (drop l.i l.list) l.sched
