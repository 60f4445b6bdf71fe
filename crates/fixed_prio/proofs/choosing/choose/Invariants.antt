use Rattle.plain_kernel.specs.seq_state.specs.{◌≡◌, ◌≤◌, length, drop, state_of}
use Rattle.sched_rules.specs.Schedule.{chosen}
use Rattle.fixed_prio.proofs.choosing.choose.Given as goal

abbrev pub invariant-jobs : goal.invariant-jobs
invariant-jobs l = record {
  most : l.index ≤ length l.jobs;
  best : l.best ≡ chosen (state_of l.k) l.rule l.now l.index (drop l.index l.jobs);
}

abbrev pub decreases-jobs : goal.decreases-jobs
decreases-jobs l = l.index
