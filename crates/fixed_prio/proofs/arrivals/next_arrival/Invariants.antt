use Rattle.std.proofs.Common.{◌≡◌, ◌≤◌, length, drop}
use Rattle.sched_rules.specs.Schedule.{next_arrival}
use Rattle.fixed_prio.proofs.arrivals.next_arrival.Given as goal

abbrev pub invariant-jobs : goal.invariant-jobs
invariant-jobs l = record { most : l.index ≤ length l.jobs; next : l.next ≡ next_arrival l.now (drop l.index l.jobs) }

abbrev pub decreases-jobs : goal.decreases-jobs
decreases-jobs l = l.index
