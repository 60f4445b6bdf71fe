use Rattle.sched_text.proofs.Adding.{task_fits}
use Rattle.sched_text.proofs.push_tasks.Goals as goal

pub ran_by-ran-requires : goal.ran_by-ran-requires
ran_by-ran-requires c = (task_fits c.args.turns.now c.args.tasks.now c.requires.fit c.tasks.number c.tasks.task-index c.task-item.result
    c.tasks-test.true c.task-item.is c.tasks.invariant.number).0

pub work_by-work-requires : goal.work_by-work-requires
work_by-work-requires c = (task_fits c.args.turns.now c.args.tasks.now c.requires.fit c.tasks.number c.tasks.task-index c.task-item.result
    c.tasks-test.true c.task-item.is c.tasks.invariant.number).1
