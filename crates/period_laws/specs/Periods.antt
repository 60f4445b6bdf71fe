-- When a job of a task with a period is done.
use Rattle.std.specs.Prelude.{◌≡◌, ◌≤◌, ℕ, ◌+◌, ◌-◌, ◌*◌, ◌==◌, min, Bool, true, not, ◌&&◌, if◌then◌else◌, List, [], ◌∷◌, slice_get, Option}
use Rattle.std.specs.Prelude.{Some, None, All}
use Rattle.std.specs.Int.{div_ceil}
use Rattle.sched_laws.specs.sched_rules.specs.{Progress, Step, TaskFits, ready, at_first, turns_of, IsSchedule, declared.tasks.Task.Task}
use Rattle.sched_laws.specs.sched_rules.specs.{declared.tasks.Rule.Rule, declared.tasks.Job.Job, declared.tasks.Ready.Ready}
use Rattle.sched_laws.specs.sched_rules.specs.{declared.turns.Turn.Turn, declared.turns.Turn.TheVariants.Ran}
use Rattle.sched_laws.specs.sched_rules.specs.{declared.turns.Turn.TheVariants.Idle, declared.turns.Turn.TheVariants.Back}
use Rattle.sched_laws.specs.sched_rules.specs.{declared.turns.Turn.TheVariants.Refused}
use Rattle.sched_laws.specs.sched_rules.specs.kernel_rules.specs.State.{State}
use Rattle.sched_laws.specs.Response.{Throughout, HasNumbers, IsSupplied, NeverRefused, is_not_after}
use Rattle.sched_laws.specs.Least.{ComesFirst}

-- The ticks that a task, counted from 1, ran before a time.
abbrev pub ran_before : ℕ → ℕ → Turn → ℕ
ran_before i end (Ran at task ticks) = if task == i then min ticks (end - at) else 0
ran_before i end (Idle at ticks) = 0
ran_before i end (Back at task ticks) = 0
ran_before i end (Refused at task reply) = 0

abbrev pub ran_until : ℕ → ℕ → List Turn → ℕ
ran_until i end [] = 0
ran_until i end (turn ∷ turns) = ran_before i end turn + ran_until i end turns

-- Whenever the task at place i and another are ready, the other does not come before it.
abbrev pub IsHighest : Rule → ℕ → Progress → Type 0
IsHighest rule i x = (job : Job) (r : Ready) → slice_get x.jobs i ≡ Some job → ready x.state rule x.time job ≡ Some r
    → (k : ℕ) (other : Job) (q : Ready) → slice_get x.jobs k ≡ Some other → ready x.state rule x.time other ≡ Some q
    → ComesFirst r.number i q.number k

-- Of a task that no other comes before, that is supplied whenever it is due, and is not refused, each job is done within its work of ticks:
-- by then the task has run the work of this job and of all before it.
abbrev pub HighestIsDone : Type 0
HighestIsDone = (rule : Rule) (s : State) (tasks : List Task) (steps : List Step) → IsSchedule rule (at_first s tasks) steps
    → (i : ℕ) (task : Task) → slice_get tasks i ≡ Some task → (period : ℕ) → task.period ≡ Some period → task.work ≤ period
    → Throughout (IsHighest rule i) (at_first s tasks) steps → Throughout (IsSupplied rule i) (at_first s tasks) steps
    → NeverRefused (i + 1) steps
    → (k : ℕ) → task.arrival + k * period ≤ 1000000
    → ran_until (i + 1) (task.arrival + k * period + task.work) (turns_of steps) ≡ (k + 1) * task.work

-- The jobs of a task with this period that arrive in so many ticks, at most; one of a task without a period.
abbrev pub jobs_in : ℕ → Option ℕ → ℕ
jobs_in ticks None = 1
jobs_in ticks (Some period) = div_ceil ticks period

-- Whether the task at place k is above that at place i: not after it, and another.
abbrev pub is_above : (ℕ → ℕ) → ℕ → ℕ → Bool
is_above numbers i k = is_not_after numbers i k && not (k == i)

-- The work that the tasks listed from place k on that are above the task at place i ask for in so many ticks.
abbrev pub work_above : (ℕ → ℕ) → ℕ → ℕ → ℕ → List Task → ℕ
work_above numbers i ticks k [] = 0
work_above numbers i ticks k (task ∷ tasks) =
    (if is_above numbers i k then jobs_in ticks task.period * task.work else 0) + work_above numbers i ticks (k + 1) tasks

-- Where a number of ticks, at most the period of a task, is enough for the task's work and for all that those above it ask for in so many
-- ticks, each job of the task is done so many ticks after its arrival: by then the task has run the work of this job and of all before it.
-- The task is not refused, and it and those above it are supplied whenever they are due. Those above it may be refused; of the others
-- nothing is asked but that each has one number throughout.
abbrev pub PeriodicBound : Type 0
PeriodicBound = (rule : Rule) (s : State) (tasks : List Task) (steps : List Step) → All TaskFits tasks
    → IsSchedule rule (at_first s tasks) steps
    → (numbers : ℕ → ℕ) → Throughout (HasNumbers rule numbers) (at_first s tasks) steps
    → (i : ℕ) (task : Task) → slice_get tasks i ≡ Some task → (period : ℕ) → task.period ≡ Some period
    → (ticks : ℕ) → ticks ≤ period → task.work + work_above numbers i ticks 0 tasks ≤ ticks
    → ((k : ℕ) → is_not_after numbers i k ≡ true → Throughout (IsSupplied rule k) (at_first s tasks) steps)
    → NeverRefused (i + 1) steps
    → (k : ℕ) → task.arrival + k * period ≤ 1000000
    → ran_until (i + 1) (task.arrival + k * period + ticks) (turns_of steps) ≡ (k + 1) * task.work
