-- When further jobs of tasks arrive.
use Rattle.std.specs.Prelude.{◌≡◌, ◌≤◌, ℕ, ◌+◌, ◌*◌, ◌==◌, Bool, false, ◌||◌, List, [], ◌∷◌, ◌++◌, slice_get, Some}
use Rattle.sched_laws.specs.sched_rules.specs.{declared.tasks.Task.Task, declared.tasks.Rule.Rule, declared.turns.Turn.Turn}
use Rattle.sched_laws.specs.sched_rules.specs.{declared.turns.Turn.TheVariants.Ran, Step, at_first, turns_of, IsSchedule, come_by}
use Rattle.sched_laws.specs.sched_rules.specs.{declared.turns.Turn.TheVariants.Idle, declared.turns.Turn.TheVariants.Back}
use Rattle.sched_laws.specs.sched_rules.specs.{declared.turns.Turn.TheVariants.Refused}
use Rattle.sched_laws.specs.sched_rules.specs.kernel_rules.specs.State.{State}

-- When a turn begins.
abbrev pub begins_at : Turn → ℕ
begins_at (Ran at task ticks) = at
begins_at (Idle at ticks) = at
begins_at (Back at task ticks) = at
begins_at (Refused at task reply) = at

-- Whether a turn refuses the task i, counted from 1, and whether one of these turns does.
abbrev pub refuses : ℕ → Turn → Bool
refuses i (Ran at task ticks) = false
refuses i (Idle at ticks) = false
refuses i (Back at task ticks) = false
refuses i (Refused at task reply) = task == i

abbrev pub is_refused : ℕ → List Turn → Bool
is_refused i [] = false
is_refused i (turn ∷ turns) = refuses i turn || is_refused i turns

-- After these turns the next job of the task i, counted from 1, is due at a time: the task has a period, and the time is its arrival and
-- one period for each further job that has come in these turns, and for this one. None is due after 1,000,000, and none of a task that was
-- refused.
pub record NextDue (tasks : List Task) (turns : List Turn) (i at : ℕ) : Type 0 where
  pub place : ℕ
  pub counted : place + 1 ≡ i
  pub task : Task
  pub listed : slice_get tasks place ≡ Some task
  pub period : ℕ
  pub own : task.period ≡ Some period
  pub time : at ≡ task.arrival + (come_by i turns + 1) * period
  pub last : at ≤ 1000000
  pub stays : is_refused i turns ≡ false

-- In these turns each further job of a task arrives when it is due: where one arrives, it is the task's next, and the turn is at its time;
-- no turn begins after the time of a next job that has not come; and after the last turn none is due.
pub record ArrivesOnTime (tasks : List Task) (turns : List Turn) : Type 0 where
  pub comes : (before after : List Turn) (at i ticks : ℕ) → turns ≡ before ++ Back at i ticks ∷ after → NextDue tasks before i at
  pub none_late : (before after : List Turn) (turn : Turn) → turns ≡ before ++ turn ∷ after
      → (i at : ℕ) → NextDue tasks before i at → begins_at turn ≤ at
  pub none_left : (i at : ℕ) → NextDue tasks turns i at → ⊥

abbrev pub ArriveOnTime : Type 0
ArriveOnTime = (rule : Rule) (s : State) (tasks : List Task) (steps : List Step) → IsSchedule rule (at_first s tasks) steps
    → ArrivesOnTime tasks (turns_of steps)
