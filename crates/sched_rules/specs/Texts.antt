-- How turns and tasks are written.
use Rattle.std.specs.Prelude.{◌+◌, ◌-◌, ◌*◌, ◌==◌, if◌then◌else◌, ◌∷◌, ◌++◌}
use Rattle.kernel_rules.specs.{ℕ, List, [], codes, decimal, reply_text}
use Rattle.sched_rules.specs.declared.turns.Turn.TheVariants.{Ran, Idle, Back, Refused}
use Rattle.{sched_rules.specs.declared.tasks.Task.Task, sched_rules.specs.declared.turns.Turn.Turn}

-- the beginning of a turn of a task
abbrev pub task_at : ℕ → ℕ → List ℕ
task_at at task = codes "at " ++ decimal at ++ codes " task " ++ decimal task

-- a turn, without the end of its line
abbrev pub turn_text : Turn → List ℕ
turn_text (Ran at task ticks) = codes "at " ++ decimal at ++ codes " task " ++ decimal task ++ codes " ran " ++ decimal ticks
turn_text (Idle at ticks) = codes "at " ++ decimal at ++ codes " idle " ++ decimal ticks
turn_text (Back at task ticks) = codes "at " ++ decimal at ++ codes " task " ++ decimal task ++ codes " back " ++ decimal ticks
turn_text (Refused at task reply) =
    codes "at " ++ decimal at ++ codes " task " ++ decimal task ++ codes " refused " ++ reply_text reply

-- the lines of turns, one a line
abbrev pub turn_lines : List Turn → List ℕ
turn_lines [] = []
turn_lines (turn ∷ turns) = turn_text turn ++ (10 ∷ []) ++ turn_lines turns

-- the ticks that a task ran in a turn
abbrev pub ran_in : ℕ → Turn → ℕ
ran_in i (Ran at task ticks) = if task == i then ticks else 0
ran_in i (Idle at ticks) = 0
ran_in i (Back at task ticks) = 0
ran_in i (Refused at task reply) = 0

-- the ticks that a task ran in these turns
abbrev pub ran_by : ℕ → List Turn → ℕ
ran_by i [] = 0
ran_by i (turn ∷ turns) = ran_in i turn + ran_by i turns

-- the further jobs of a task that arrived in these turns
abbrev pub come_in : ℕ → Turn → ℕ
come_in i (Ran at task ticks) = 0
come_in i (Idle at ticks) = 0
come_in i (Back at task ticks) = if task == i then 1 else 0
come_in i (Refused at task reply) = 0

abbrev pub come_by : ℕ → List Turn → ℕ
come_by i [] = 0
come_by i (turn ∷ turns) = come_in i turn + come_by i turns

-- the work of all its jobs that arrived
abbrev pub work_by : ℕ → List Turn → Task → ℕ
work_by i turns task = (come_by i turns + 1) * task.work

-- the line of a task after the schedule: the ticks that it ran, and the work left
abbrev pub task_line : ℕ → ℕ → ℕ → List ℕ
task_line i ran work =
    codes "task " ++ decimal i ++ codes " ran " ++ decimal ran ++ codes " left " ++ decimal (work - ran) ++ 10 ∷ []

-- the lines of the tasks, which count from i
abbrev pub task_lines : List Turn → ℕ → List Task → List ℕ
task_lines turns i [] = []
task_lines turns i (task ∷ tasks) = task_line i (ran_by i turns) (work_by i turns task) ++ task_lines turns (i + 1) tasks

-- the text of a schedule: a line for each turn, and then one for each task
unfoldable pub schedule_text : List Turn → List Task → List ℕ
schedule_text turns tasks = turn_lines turns ++ task_lines turns 1 tasks
