-- What a schedule leaves of each task's work.
use Rattle.sched_rules.specs.{Progress, Step, at_first, turns_of, IsSchedule, ran_by, work_by}
use Rattle.std.specs.Prelude.{◌≡◌, ℕ, ◌+◌, List, slice_get, Some}
use Rattle.sched_rules.specs.kernel_rules.specs.State.{State}
use Rattle.sched_rules.specs.{declared.tasks.Task.Task, declared.tasks.Rule.Rule, declared.tasks.Job.Job, Schedule.last_of}

-- The task at place i has this work left, and has run for the rest of it.
pub record HasLeft (x : Progress) (i ran work : ℕ) : Type 0 where
  pub job : Job
  pub listed : slice_get x.jobs i ≡ Some job
  pub sum : ran + job.left ≡ work

-- At the end of a schedule each task has left what it did not run of the work of its jobs that arrived.
abbrev pub WorkIsKept : Type 0
WorkIsKept = (rule : Rule) (s : State) (tasks : List Task) (steps : List Step) → IsSchedule rule (at_first s tasks) steps
    → (i : ℕ) (task : Task) → slice_get tasks i ≡ Some task
    → HasLeft (last_of (at_first s tasks) steps) i (ran_by (i + 1) (turns_of steps)) (work_by (i + 1) (turns_of steps) task)
