-- What a turn, and a whole schedule, make of a machine and of where the schedule has come to.
use Rattle.std.specs.Prelude.{◌≡◌, ◌<◌, ◌≤◌, ◌^◌, ◌*◌, ◌+◌, ◌-◌, ◌∷◌, ◌++◌}
use Rattle.plain_kernel.specs.seq_state.specs.{ℕ, List, [], length, slice_get, All, false}
use Rattle.plain_kernel.specs.seq_state.specs.{Option, Some, None, IfSome, Setting, Call}
use Rattle.sched_rules.specs.{Progress, Step, TaskFits, at_first, turns_of, calls_of, IsSchedule}
use Rattle.plain_kernel.specs.seq_state.specs.Maps.{Maps}
use Rattle.sched_rules.specs.{declared.tasks.Task.Task, declared.tasks.Rule.Rule, declared.tasks.Job.Job, declared.tasks.Choice.Choice}
use Rattle.sched_rules.specs.{declared.tasks.Renewal.Renewal, declared.turns.Turn.Turn, declared.turns.Turn.TheVariants.Idle}
use Rattle.fixed_prio.specs.{declared.course.Course.Course, Machines.after_calls, Machines.Beside}

-- Where the schedule has come to, after these calls of the machine.
abbrev pub progress : Setting → List Call → Course → Progress
progress setting made course =
    record { time = course.time; state = after_calls setting made; jobs = course.jobs.items; last = course.last }

-- What a task may have to run yet: what it has left, and for each tick up to the last at which a job may arrive the most work of one.
abbrev pub yet_from : Option ℕ → ℕ
yet_from None = 0
yet_from (Some at) = 10000 * (1000001 - at)

abbrev pub yet : Job → ℕ
yet job = job.left + yet_from job.next

abbrev pub all_yet : List Job → ℕ
all_yet [] = 0
all_yet (job ∷ jobs) = yet job + all_yet jobs

-- A job arrives in range, after the first one, and, unless its task is out, no earlier than now.
pub record ComesNext (now : ℕ) (job : Job) (at : ℕ) : Type 0 where
  pub most : at ≤ 1000000
  pub first : job.task.arrival ≤ at
  pub coming : job.out ≡ false → now ≤ at

-- A task is in range, and so is its next job; and it has run no longer than the schedule.
pub record Arrives (now : ℕ) (job : Job) : Type 0 where
  pub task : TaskFits job.task
  pub next : IfSome job.next (ComesNext now job)
  pub used : job.used ≤ now

-- Times of turns are in range, up to the end.
pub record Fits (now : ℕ) (jobs : List Job) : Type 0 where
  pub few : length jobs ≤ 32
  pub arrivals : All (Arrives now) jobs
  pub work : all_yet jobs ≤ 32 * 10000020000
  pub time : now + all_yet jobs ≤ 1000000 + 32 * 10000020000

abbrev pub CourseFits : Course → Type 0
CourseFits course = Fits course.time course.jobs.items

-- The chosen task is one of those listed, and the turn is in range.
pub record IsChosen (course : Course) (c : Choice) (n : ℕ) : Type 0 where
  pub place : slice_get course.jobs.items c.index ≡ Some c.job
  pub few : length course.jobs.items ≤ 32
  pub work : n ≤ c.job.left
  pub ticks : n ≤ 1000000
  pub used : c.job.used ≤ course.time
  pub time : course.time ≤ 1000000 + 32 * 10000020000

-- A task of which a further job has arrived is one of those listed.
pub record IsRenewal (course : Course) (r : Renewal) : Type 0 where
  pub place : slice_get course.jobs.items r.index ≡ Some r.job
  pub few : length course.jobs.items ≤ 32
  pub work : r.job.left + r.job.task.work < 2 ^ 64
  pub used : r.job.used ≤ 1000000
  pub next : IfSome r.job.next (λ at. at ≤ 1000000)

-- The turn that was taken is that of this step: the machine has made its calls, and the plain kernel has gone along.
pub record Takes (setup : Setting) (before : List Call) (step : Step) (taken : Turn) (after : List Call) (course : Course) (k : Maps)
    : Type 0 where
  pub turn : step.turn ≡ taken
  pub made : after ≡ before ++ step.calls
  pub next : step.next ≡ progress setup after course
  pub beside : Beside setup after k

-- The schedule has ended, and nothing has changed.
pub record Ends (setup : Setting) (before : List Call) (old : Course) (after : List Call) (new : Course) (k : Maps) : Type 0 where
  pub made : after ≡ before
  pub course : new ≡ old
  pub beside : Beside setup after k

-- The next turn was taken; or there is none.
abbrev pub TakesTurn : Setting → List Call → Course → Option Step → Option Turn → List Call → Course → Maps → Type 0
TakesTurn setup before course None None after new k = Ends setup before course after new k
TakesTurn setup before course (Some step) (Some turn) after new k = Takes setup before step turn after new k
TakesTurn setup before course _ _ after new k = ⊥

-- The idle turn up to an arrival, if one comes.
abbrev pub IdlesTo : Option ℕ → Course → Option Turn → Course → Type 0
IdlesTo None course turn new = (turn ≡ None) × (new ≡ course)
IdlesTo (Some at) course turn new = (turn ≡ Some (Idle course.time (at - course.time))) × (new ≡ record course { time = at })

-- From the state after the machine's calls, the schedule's turns were these; the machine has made their calls.
pub record HasScheduled (setup : Setting) (before : List Call) (rule : Rule) (tasks : List Task) (taken : List Turn) (after : List Call)
    : Type 0 where
  pub steps : List Step
  pub schedule : IsSchedule rule (at_first (after_calls setup before) tasks) steps
  pub turns : taken ≡ turns_of steps
  pub made : after ≡ before ++ calls_of steps
