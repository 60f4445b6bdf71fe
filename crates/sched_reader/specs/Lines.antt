-- The line `sched`, and the lines of tasks after it.
use Rattle.std.specs.Prelude.{ℕ, ◌&&◌, nat_le, nat_lt, List, length, Bool, false, Option, Some, None, Result, Ok, Err, slice_get, codes}
use Rattle.line_reader.specs.{declared.cause.Cause.Cause, declared.cause.Cause.TheVariants.S2, Arguments.is_word, Arguments.number_at}
use Rattle.{std.specs.Prelude.if◌then◌else◌, line_reader.specs.◌>>=◌, line_reader.specs.name_at, sched_rules.specs.declared.tasks.Rule.Rule}
use Rattle.{sched_rules.specs.declared.tasks.Task.Task, line_reader.specs.Arguments.end_at}

-- there is a word, and it is this one
abbrev pub is_name : List ℕ → Option (List ℕ) → Bool
is_name name None = false
is_name name (Some word) = is_word word name

-- the line's first word is this one
abbrev pub begins : List (List ℕ) → List ℕ → Bool
begins words name = is_name name (slice_get words 0)

-- `sched S U`: the scheduler and the quantum
unfoldable pub rule_at : List (List ℕ) → Result Rule Cause
rule_at words = do
  s ← number_at words 1 0 63
  u ← number_at words 2 1 1000000
  done ← end_at words 3
  Ok (record { sched = s; quantum = u })

-- behind the work of a task may stand its period, from version 3 on
abbrev pub given_period : List (List ℕ) → Result (Option ℕ) Cause
given_period words = do
  p ← number_at words 5 1 1000000
  done ← end_at words 6
  Ok (Some p)

abbrev pub no_period : List (List ℕ) → Result (Option ℕ) Cause
no_period words = do
  done ← end_at words 5
  Ok None

unfoldable pub period_at : ℕ → List (List ℕ) → Result (Option ℕ) Cause
period_at version words = if nat_le 3 version && nat_lt 5 (length words) then given_period words else no_period words

-- `task H Q A N`: the thread, the temporal capability, the arrival and the work; and `task H Q A N P`, with a period
unfoldable pub task_at : ℕ → List (List ℕ) → Result Task Cause
task_at version words = do
  h ← name_at words 1
  q ← name_at words 2
  a ← number_at words 3 0 1000000
  n ← number_at words 4 1 10000
  p ← period_at version words
  Ok (record { thread = h; tcap = q; arrival = a; work = n; period = p })

-- a line after the line `sched`: another first word than `task` is S2
unfoldable pub task_line : ℕ → List (List ℕ) → Result Task Cause
task_line version words = if begins words (codes "task") then task_at version words else Err S2
