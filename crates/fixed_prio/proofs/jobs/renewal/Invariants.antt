use Rattle.{std.proofs.Common.◌≡◌, std.proofs.Common.drop, sched_rules.specs.Schedule.renewal}
use Rattle.fixed_prio.proofs.jobs.renewal.Given as goal

abbrev pub invariant-jobs : goal.invariant-jobs
invariant-jobs l = renewal l.now 0 l.jobs ≡ renewal l.now l.index (drop l.index l.jobs)
