use Rattle.{std.proofs.Common.◌≡◌, std.proofs.Common.map, std.proofs.Common.take, sched_rules.specs.Schedule.new_job}
use Rattle.fixed_prio.proofs.course.begin.Given as goal

abbrev pub invariant-tasks : goal.invariant-tasks
invariant-tasks l = l.jobs.items ≡ map new_job (take l.task-index l.tasks)
