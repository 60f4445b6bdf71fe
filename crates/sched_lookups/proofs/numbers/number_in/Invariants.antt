use Rattle.seq_lookups.specs.seq_state.specs.kernel_rules.specs.{◌≡◌, drop, number_of}
use Rattle.sched_lookups.proofs.numbers.number_in.Given as goal

abbrev pub invariant-pairs : goal.invariant-pairs
invariant-pairs l = number_of l.list l.sched ≡ number_of (drop l.i l.list) l.sched
