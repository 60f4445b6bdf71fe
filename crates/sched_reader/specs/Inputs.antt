-- A script and the tasks after it, as a whole: the lines of the bytes, one after another, and the end.
use Rattle.std.specs.Prelude.{◌≡◌, ◌≤◌, ℕ, ◌+◌, ◌==◌, List, [], ◌∷◌, ◌++◌, Bool, true, false, Option, Some, None, Result, Ok, Err, length}
use Rattle.std.specs.Prelude.{codes, All, IfSome, IsSome, if◌then◌else◌}
use Rattle.script_reader.specs.{is_whole, Draft_of, no_draft, draft_behind, Meaning, meaning_of, IsDraft, IsScript, draft_view, script_view}
use Rattle.line_reader.specs.{◌>>=◌, Row, rows_of, First_fault, at_line, and_then, lines_from as all_lines_from}
use Rattle.line_reader.specs.{declared.cause.Cause.Cause, declared.cause.Cause.TheVariants.S5, declared.cause.Cause.TheVariants.S7}
use Rattle.sched_reader.specs.{declared.draft.SchedDraft.SchedDraft, declared.reading.SchedInput.SchedInput, Lines.begins, Lines.rule_at}
use Rattle.{sched_rules.specs.TaskFits, sched_rules.specs.RuleFits, script_tokens.specs.words_of, script_tokens.specs.ending_of}
use Rattle.{script_tokens.specs.declared.scanning.Ending.Ending, line_reader.specs.declared.cause.Cause.TheVariants.S9}
use Rattle.{line_reader.specs.Lines.whole_lines, sched_rules.specs.declared.tasks.Rule.Rule, sched_rules.specs.declared.tasks.Task.Task}
use Rattle.{sched_reader.specs.Lines.task_line}

-- ---- lines

-- what the lines so far say: the script, the line of its `cores` line and that of its first `tick`, the rule from the line `sched` on, and
-- the tasks
pub record Sched_draft : Type 0 where
  pub script : Draft_of
  pub cores_at : ℕ
  pub tick_at : Option ℕ
  pub rule : Option Rule
  pub tasks : List Task

-- nothing was read
abbrev pub no_input : Sched_draft
no_input = record { script = no_draft; cores_at = 0; tick_at = None; rule = None; tasks = [] }

abbrev pub first_line : Option ℕ → ℕ → Option ℕ
first_line None line = Some line
first_line (Some first) line = Some first

-- the `cores` line, and the first line of a `tick`, are kept in mind
abbrev pub noted : Sched_draft → ℕ → List (List ℕ) → Sched_draft
noted d line words =
    if begins words (codes "cores") then record d { cores_at = line }
    else (if begins words (codes "tick") then record d { tick_at = first_line d.tick_at line } else d)

-- a line of the script
unfoldable pub script_line : Sched_draft → ℕ → List (List ℕ) → Result Sched_draft First_fault
script_line d line words =
    at_line line (draft_behind d.script words >>= λ script. Ok (noted (record d { script = script }) line words))

-- a `tick` is S7 at its line
abbrev pub tick_fault : Option ℕ → Option First_fault
tick_fault None = None
tick_fault (Some line) = Some (record { line = line; cause = S7 })

-- why a script cannot be scheduled: another number of cores than 1 is S5 at its line; and it has no `tick`
abbrev pub unfit : Sched_draft → Option First_fault
unfit d = if d.script.head.cores == 1 then tick_fault d.tick_at else Some (record { line = d.cores_at; cause = S5 })

abbrev pub unless : Option First_fault → Result Unit First_fault
unless None = Ok tt
unless (Some fault) = Err fault

-- the script ends before this line: S7 there where it may not end, and else why it cannot be scheduled
abbrev pub script_end : Sched_draft → ℕ → Result Unit First_fault
script_end d line =
    if is_whole d.script.head.section then unless (unfit d) else Err (record { line = line; cause = S7 })

-- the line `sched`, which ends the script
unfoldable pub sched_line : Sched_draft → ℕ → List (List ℕ) → Result Sched_draft First_fault
sched_line d line words =
    and_then (script_end d line) (λ done. at_line line (rule_at words >>= λ rule. Ok (record d { rule = Some rule })))

-- one task more; task 33 is S9
abbrev pub with_task : Sched_draft → Task → Result Sched_draft Cause
with_task d task = if length d.tasks == 32 then Err S9 else Ok (record d { tasks = d.tasks ++ task ∷ [] })

-- the line of a task
abbrev pub task_line_of : Sched_draft → ℕ → List (List ℕ) → Result Sched_draft First_fault
task_line_of d line words = at_line line (task_line d.script.head.version words >>= with_task d)

-- a line before the line `sched`, or that line
abbrev pub head_line : Sched_draft → ℕ → List (List ℕ) → Result Sched_draft First_fault
head_line d line words = if begins words (codes "sched") then sched_line d line words else script_line d line words

abbrev pub line_by : Sched_draft → ℕ → List (List ℕ) → Option Rule → Result Sched_draft First_fault
line_by d line words None = head_line d line words
line_by d line words (Some rule) = task_line_of d line words

-- the draft after a line
abbrev pub line_behind : Sched_draft → ℕ → List (List ℕ) → Result Sched_draft First_fault
line_behind d line words = line_by d line words d.rule

-- the draft after lines, or the first fault
abbrev pub lines_from : Sched_draft → List Row → Result Sched_draft First_fault
lines_from d rows = all_lines_from line_behind d rows

-- ---- the whole

-- what was read: a script, the rule of a scheduler, and its tasks
pub record Input : Type 0 where
  pub script : Meaning
  pub rule : Rule
  pub tasks : List Task

-- what lines say, by the line `sched`: without one the line after the last is S7, unless the script has a fault
abbrev pub input_by : Sched_draft → ℕ → Option Rule → Result Input First_fault
input_by d lines None = and_then (script_end d (lines + 1)) (λ done. Err (record { line = lines + 1; cause = S7 }))
input_by d lines (Some rule) = Ok (record { script = meaning_of d.script; rule = rule; tasks = d.tasks })

-- the end of the bytes: the byte or line that ended them; else that of the lines
abbrev pub input_at : Sched_draft → Ending → Result Input First_fault
input_at d ending = and_then (whole_lines ending) (λ lines. input_by d lines d.rule)

-- what bytes say: the script with tasks that they are, or their first fault
unfoldable pub input_of : List ℕ → Result Input First_fault
input_of source = and_then (lines_from no_input (rows_of (words_of source))) (λ d. input_at d (ending_of source))

-- ---- what the reader answers

-- from the line `sched` on the script may end, and has one core
pub record IsScheduled (script : Draft_of) (rule : Rule) : Type 0 where
  pub whole : is_whole script.head.section ≡ true
  pub one_core : script.head.cores ≡ 1
  pub fits : RuleFits rule

-- a draft that lines lead to
pub record IsInput (d : Sched_draft) : Type 0 where
  pub script : IsDraft d.script
  pub rule : IfSome d.rule (IsScheduled d.script)
  pub few : length d.tasks ≤ 32
  pub tasks : All TaskFits d.tasks

-- a draft and what was read, seen without where they lie in memory
abbrev pub draft_seen : SchedDraft → Sched_draft
draft_seen d = record { script = draft_view d.script; cores_at = d.cores_at; tick_at = d.tick_at; rule = d.rule; tasks = d.tasks.items }

abbrev pub input_view : SchedInput → Input
input_view i = record { script = script_view i.script; rule = i.rule; tasks = i.tasks.items }

-- what is read is a script of one core, a rule and tasks in range
pub record IsSchedInput (i : SchedInput) : Type 0 where
  pub script : IsScript i.script
  pub one_core : i.script.setup.cores ≡ 1
  pub rule : RuleFits i.rule
  pub few : length i.tasks.items ≤ 32
  pub tasks : All TaskFits i.tasks.items
