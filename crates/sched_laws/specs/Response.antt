-- When a task ends.
use Rattle.std.specs.Prelude.{◌≡◌, ◌≢◌, ◌≤◌, ◌+◌, ◌||◌, ◌&&◌, ◌==◌, if◌then◌else◌, ◌∷◌}
use Rattle.sched_rules.specs.kernel_rules.specs.{ℕ, Bool, true, ltb as nat_lt, leb as nat_le}
use Rattle.sched_rules.specs.kernel_rules.specs.{List, [], slice_get, Some, None, IsSome, Reply}
use Rattle.sched_rules.specs.{Progress, Step, is_due, ready, at_first, turns_of, IsSchedule, ran_by}
use Rattle.sched_rules.specs.kernel_rules.specs.State.{State}
use Rattle.sched_rules.specs.{declared.tasks.Task.Task, declared.tasks.Rule.Rule, declared.tasks.Job.Job, declared.tasks.Ready.Ready}
use Rattle.sched_rules.specs.{declared.turns.Turn.TheVariants.Ran, declared.turns.Turn.TheVariants.Refused}

-- This holds wherever the schedule comes to, before its first turn and after each turn.
abbrev pub Throughout : (Progress → Type 0) → Progress → List Step → Type 0
Throughout Holds x [] = Holds x
Throughout Holds x (step ∷ steps) = Holds x × Throughout Holds step.next steps

-- Whenever a task is ready, its number is that of its place.
abbrev pub HasNumbers : Rule → (ℕ → ℕ) → Progress → Type 0
HasNumbers rule numbers x = (k : ℕ) (job : Job) (r : Ready) → slice_get x.jobs k ≡ Some job → ready x.state rule x.time job ≡ Some r
    → r.number ≡ numbers k

-- Whenever the task at place i is due, it is ready: its name reaches a temporal capability that has budget and names the scheduler.
abbrev pub IsSupplied : Rule → ℕ → Progress → Type 0
IsSupplied rule i x = (job : Job) → slice_get x.jobs i ≡ Some job → is_due x.time job ≡ true
    → IsSome (ready x.state rule x.time job)

-- No turn refuses the task i, counted from 1.
abbrev pub NeverRefused : ℕ → List Step → Type 0
NeverRefused i [] = Unit {0}
NeverRefused i (step ∷ steps) = ((at : ℕ) (r : Reply) → step.turn ≢ Refused at i r) × NeverRefused i steps

-- Whether the task at place k is not after that at place i: its number is smaller, or the same and it is listed no later.
abbrev pub is_not_after : (ℕ → ℕ) → ℕ → ℕ → Bool
is_not_after numbers i k = nat_lt (numbers k) (numbers i) || (numbers k == numbers i && nat_le k i)

-- The work of the tasks listed from place k on that are not after the task at place i.
abbrev pub work_not_after : (ℕ → ℕ) → ℕ → ℕ → List Task → ℕ
work_not_after numbers i k [] = 0
work_not_after numbers i k (task ∷ tasks) =
    (if is_not_after numbers i k then task.work else 0) + work_not_after numbers i (k + 1) tasks

-- Each turn of the task i, counted from 1, ends by this time.
abbrev pub TurnsEndBy : ℕ → ℕ → List Step → Type 0
TurnsEndBy i bound [] = Unit {0}
TurnsEndBy i bound (step ∷ steps) = ((at u : ℕ) → step.turn ≡ Ran at i u → at + u ≤ bound) × TurnsEndBy i bound steps

-- The task i, counted from 1, has made all its work, in turns that end by this time.
pub record EndsBy (i work bound : ℕ) (steps : List Step) : Type 0 where
  pub turns : TurnsEndBy i bound steps
  pub whole : ran_by i (turns_of steps) ≡ work

-- Where no task has a period, one that is supplied whenever it is due, and is not refused, ends by its arrival and the work of all tasks
-- that are not after it, itself included. Nothing is asked of the others but that each has one number throughout: they may be refused, or
-- run out of budget.
abbrev pub ResponseBound : Type 0
ResponseBound = (rule : Rule) (s : State) (tasks : List Task) (steps : List Step)
    → ((k : ℕ) (other : Task) → slice_get tasks k ≡ Some other → other.period ≡ None) → IsSchedule rule (at_first s tasks) steps
    → (numbers : ℕ → ℕ) → Throughout (HasNumbers rule numbers) (at_first s tasks) steps
    → (i : ℕ) (task : Task) → slice_get tasks i ≡ Some task
    → Throughout (IsSupplied rule i) (at_first s tasks) steps → NeverRefused (i + 1) steps
    → EndsBy (i + 1) task.work (task.arrival + work_not_after numbers i 0 tasks) steps
