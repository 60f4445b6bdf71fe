-- What the text of a trace says as a given history, and which traces have such a text.
use Rattle.std.specs.Prelude.{◌+◌, ◌<◌, ◌≤◌, ◌∷◌}
use Rattle.marked_laws.specs.kernel_history.specs.{ℕ, List, [], reverse, Option, Some, None, Setting, IsSetting, Call}
use Rattle.marked_laws.specs.kernel_history.specs.{Reply, Step}
use Rattle.marked_laws.specs.marked_history.specs.{declared.marks.Mark.Mark, declared.marks.Said.TheVariants.One, declared.marks.Line.Line}
use Rattle.{marked_laws.specs.kernel_history.specs.Trace.Trace, trace_lines.specs.script_tokens.specs.Words.line_count}
use Rattle.{trace_lines.specs.script_printer.specs.IsCallWithin, marked_laws.specs.Marks.marks_of, trace_lines.specs.Traces.trace_text}
use Rattle.{check_run.specs.history_reader.specs.Inputs.History, reply_reads.specs.Laws.IsReplyWithin}
use Rattle.{trace_lines.specs.call_reader.specs.Versions.most_calls}

-- Marks, in order, as lines: one a line, the first of this number.
abbrev pub mark_lines : ℕ → List Mark → List Line
mark_lines number [] = []
mark_lines number (m ∷ marks) = record { number = number; said = One m } ∷ mark_lines (number + 1) marks

-- What the text of a trace says: its setup, and its marks in order. Before them the head has a line each for the version, the cores, the
-- frames and the two limits, and one for the grant of each core.
abbrev pub history_told : Setting → Trace → History
history_told setup t = record { setup = setup; lines = mark_lines (setup.cores + 6) (reverse (marks_of t)) }

-- A call that is entered is in the ranges in which it is read in a script of this version.
abbrev pub EntersWithin : ℕ → Option Call → Type 0
EntersWithin version None = Unit {0}
EntersWithin version (Some call) = IsCallWithin version call

-- A reply that is decided is in the ranges in which it is read on a machine of so many cores.
abbrev pub DecidesWithin : ℕ → Option Reply → Type 0
DecidesWithin cores None = Unit {0}
DecidesWithin cores (Some r) = IsReplyWithin cores r

-- A step is of a core of the machine, and what it enters and decides is in range.
pub record IsStepWithin (version cores : ℕ) (e : Step) : Type 0 where
  pub core : e.core < cores
  pub call : EntersWithin version e.enters
  pub reply : DecidesWithin cores e.decides

-- A version and a setup of a script, which allows no more calls than a script may, and a trace whose text has no more lines than a text
-- may have.
pub record IsTextOf (version : ℕ) (setup : Setting) (t : Trace) : Type 0 where
  pub some_version : 1 ≤ version
  pub most_versions : version ≤ 3
  pub within : IsSetting setup
  pub limit : setup.calls ≤ most_calls version
  pub lines : line_count (trace_text version setup t) ≤ 20000
