-- That the ticks of each task can be added up.
use Rattle.std.specs.Prelude.{◌≡◌, ◌<◌, ◌^◌, ℕ, ◌+◌, List, slice_get, Some}
use Rattle.sched_rules.specs.{ran_by, work_by, declared.tasks.Task.Task, declared.turns.Turn.Turn}

-- Each task ran, and was to run, for fewer than 2^64 ticks.
abbrev pub RunsFit : List Turn → List Task → Type 0
RunsFit turns tasks = (i : ℕ) (task : Task) → slice_get tasks i ≡ Some task
    → (ran_by (i + 1) turns < 2 ^ 64) × (work_by (i + 1) turns task < 2 ^ 64)
