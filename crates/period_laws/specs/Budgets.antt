-- A temporal capability of a task's own, and how its budget comes back.
use Rattle.std.specs.Prelude.{◌≡◌, ◌≢◌, ◌≤◌, ◌+◌, ◌*◌, ◌∷◌}
use Rattle.sched_laws.specs.sched_rules.specs.kernel_rules.specs.{ℕ, true, List, [], slice_get, Some, IsSome}
use Rattle.sched_laws.specs.sched_rules.specs.kernel_rules.specs.{IsTrue, All, Capability, number_of, only, fits, tcap_at, Kind}
use Rattle.sched_laws.specs.sched_rules.specs.{Progress, Step, TaskFits, reach, at_first, turns_of, IsSchedule, declared.tasks.Task.Task}
use Rattle.sched_laws.specs.sched_rules.specs.{declared.tasks.Rule.Rule, declared.tasks.Job.Job, declared.turns.Turn.TheVariants.Back}
use Rattle.sched_laws.specs.sched_rules.specs.kernel_rules.specs.State.{State}
use Rattle.sched_laws.specs.Response.{Throughout, HasNumbers, IsSupplied, NeverRefused, is_not_after}
use Rattle.period_laws.specs.Periods.{ran_until, work_above}

-- A name of core 0 leads to the temporal capability in a frame.
pub record LeadsTo (s : State) (name f : ℕ) : Type 0 where
  pub cap : Capability
  pub reaches : reach s 0 name ≡ Some cap
  pub kind : IsTrue (only Kind.Tcap cap.kind)
  pub frame : cap.frame ≡ f

-- The name of the task at place i leads to the temporal capability in a frame, and no other task's name does.
pub record IsOwn (tasks : List Task) (i f : ℕ) (x : Progress) : Type 0 where
  pub own : (task : Task) → slice_get tasks i ≡ Some task → LeadsTo x.state task.tcap f
  pub alone : (k : ℕ) (other : Task) → k ≢ i → slice_get tasks k ≡ Some other → LeadsTo x.state other.tcap f → ⊥

-- What the temporal capability in a frame lacks of a budget is what the task at place i has run since its last job.
abbrev pub LacksUsed : ℕ → ℕ → ℕ → Progress → Type 0
LacksUsed i f budget x = (job : Job) → slice_get x.jobs i ≡ Some job → (tcap_at x.state f).budget + job.used ≡ budget

-- It has the whole budget right after each turn in which a job of the task i, counted from 1, arrives.
abbrev pub IsWholeAfter : ℕ → ℕ → ℕ → List Step → Type 0
IsWholeAfter i f budget [] = Unit {0}
IsWholeAfter i f budget (step ∷ steps) =
    ((at ticks : ℕ) → step.turn ≡ Back at i ticks → (tcap_at step.next.state f).budget ≡ budget) × IsWholeAfter i f budget steps

pub record BudgetReturns (i f budget : ℕ) (x : Progress) (steps : List Step) : Type 0 where
  pub whole : IsWholeAfter (i + 1) f budget steps
  pub lacks : Throughout (LacksUsed i f budget) x steps

-- In a schedule that begins where core 0 owes nothing, and the frame has a temporal capability: if that is a task's own throughout, it has
-- its first budget again whenever a further job of the task has arrived, and lacks of it at any moment what the task has run since its last
-- job.
abbrev pub OwnBudgetReturns : Type 0
OwnBudgetReturns = (rule : Rule) (s : State) (tasks : List Task) (steps : List Step) → IsSchedule rule (at_first s tasks) steps
    → (s.core 0).owed ≡ 0 → (i f : ℕ) → IsTrue (fits Kind.Tcap (s.frame f)) → Throughout (IsOwn tasks i f) (at_first s tasks) steps
    → BudgetReturns i f (tcap_at s f).budget (at_first s tasks) steps

-- Each further job of the task at place i arrives when it has nothing left of the earlier ones.
abbrev pub DoneByNext : ℕ → Progress → List Step → Type 0
DoneByNext i x [] = Unit {0}
DoneByNext i x (step ∷ steps) =
    ((at ticks : ℕ) (job : Job) → step.turn ≡ Back at (i + 1) ticks → slice_get x.jobs i ≡ Some job → job.left ≡ 0)
    × DoneByNext i step.next steps

-- A task whose own temporal capability has at first a budget of at least its work, and names the scheduler, is supplied whenever it is due,
-- where each of its jobs is done before the next one arrives.
abbrev pub OwnBudgetSupplies : Type 0
OwnBudgetSupplies = (rule : Rule) (s : State) (tasks : List Task) (steps : List Step) → IsSchedule rule (at_first s tasks) steps
    → (s.core 0).owed ≡ 0 → (i f : ℕ) (task : Task) → slice_get tasks i ≡ Some task → Throughout (IsOwn tasks i f) (at_first s tasks) steps
    → task.work ≤ (tcap_at s f).budget → IsSome (number_of (tcap_at s f).qualities rule.sched)
    → DoneByNext i (at_first s tasks) steps → Throughout (IsSupplied rule i) (at_first s tasks) steps

-- So many ticks are a bound of the task at place k, which has this period: they are at most the period, and enough for the task's work and
-- for all that those above it ask for in so many ticks.
pub record IsBound (numbers : ℕ → ℕ) (tasks : List Task) (k : ℕ) (task : Task) (period ticks : ℕ) : Type 0 where
  pub short : ticks ≤ period
  pub enough : task.work + work_above numbers k ticks 0 tasks ≤ ticks

-- The task at place k has a temporal capability of its own throughout, with a budget at first of at least its work, and a list that names
-- the scheduler; and it has a bound, if it has a period.
pub record HasEnough (rule : Rule) (s : State) (tasks : List Task) (steps : List Step) (numbers : ℕ → ℕ) (k : ℕ) (task : Task)
    : Type 0 where
  pub frame : ℕ
  pub own : Throughout (IsOwn tasks k frame) (at_first s tasks) steps
  pub budget : task.work ≤ (tcap_at s frame).budget
  pub listed : IsSome (number_of (tcap_at s frame).qualities rule.sched)
  pub ticks : ℕ
  pub bound : (period : ℕ) → task.period ≡ Some period → IsBound numbers tasks k task period ticks

-- Where a task and each that is above it has enough, and the task is not refused, each of its jobs is done within any bound of it: so many
-- ticks after its arrival the task has run the work of this job and of all before it.
abbrev pub OwnBudgetsSuffice : Type 0
OwnBudgetsSuffice = (rule : Rule) (s : State) (tasks : List Task) (steps : List Step) → All TaskFits tasks
    → IsSchedule rule (at_first s tasks) steps → (s.core 0).owed ≡ 0
    → (numbers : ℕ → ℕ) → Throughout (HasNumbers rule numbers) (at_first s tasks) steps → (i : ℕ)
    → ((k : ℕ) (other : Task) → is_not_after numbers i k ≡ true → slice_get tasks k ≡ Some other
    → HasEnough rule s tasks steps numbers k other)
    → NeverRefused (i + 1) steps → (task : Task) → slice_get tasks i ≡ Some task → (period : ℕ) → task.period ≡ Some period
    → (ticks : ℕ) → IsBound numbers tasks i task period ticks
    → (k : ℕ) → task.arrival + k * period ≤ 1000000
    → ran_until (i + 1) (task.arrival + k * period + ticks) (turns_of steps) ≡ (k + 1) * task.work
