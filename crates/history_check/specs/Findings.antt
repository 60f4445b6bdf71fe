-- Where lines are no history any more.
use Rattle.std.specs.Prelude.{◌≡◌, ◌<◌}
use Rattle.call_judge.specs.seq_state.specs.{ℕ, List, reverse, take, length, get_or, Setting}
use Rattle.marked_history.specs.{marks_of, AreHistory, LineBreaks, AreLegal, declared.marks.Line.Line, declared.marks.Why.Why}
use Rattle.history_check.specs.declared.coming.Finding.{Finding}
use Rattle.history_check.specs.declared.coming.Finding.TheVariants.{Legal, Broken}

-- The first i lines are a history, and none goes on with the line after them.
pub record BreaksAfter (setting : Setting) (lines : List Line) (i : ℕ) (w : Why) : Type 0 where
  pub within : i < length lines
  pub history : AreHistory setting (reverse (take i lines))
  pub breaks : (line : Line) → line ≡ get_or lines i line → LineBreaks setting (marks_of (reverse (take i lines))) line.said w

-- What is found of lines.
abbrev pub IsFinding : Setting → List Line → Finding → Type 0
IsFinding setting lines (Legal decided) = AreLegal setting lines decided
IsFinding setting lines (Broken i w) = BreaksAfter setting lines i w
