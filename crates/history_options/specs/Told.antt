-- All that is told of a given history.
use Rattle.std.specs.Prelude.{◌≡◌, ◌⊎◌, ◌∷◌, ◌++◌}
use Rattle.open_calls.specs.seq_state.specs.{ℕ, List, reverse, Setting}
use Rattle.marked_history.specs.{marks_of, AreHistory, LineBreaks, AreLegal, declared.marks.Line.Line, declared.marks.Why.Why}
use Rattle.{marked_history.specs.declared.marks.Verdict.TheVariants.Legal, marked_history.specs.declared.marks.Verdict.TheVariants.Illegal}
use Rattle.{check_run.specs.Texts.verdict_text, history_options.specs.Texts.said_line, history_options.specs.Advice.IsAdvice}

-- the text tells of a line after these, with which no history goes on: the verdict, the line, and what may stand there
pub record TellsBreak (setting : Setting) (before : List Line) (line : Line) (w : Why) (text : List ℕ) : Type 0 where
  pub advice : List ℕ
  pub is_advice : IsAdvice setting before line advice
  pub is_text : text ≡ verdict_text (Illegal line.number w) ++ (said_line line.said ++ advice)

-- the lines are a history, and the text says so
pub record IsLegalTold (setting : Setting) (lines : List Line) (text : List ℕ) : Type 0 where
  pub decided : ℕ
  pub legal : AreLegal setting lines decided
  pub is_text : text ≡ verdict_text (Legal decided)

-- the text tells of the first line with which no history goes on
pub record IsBreakTold (setting : Setting) (lines : List Line) (text : List ℕ) : Type 0 where
  pub before : List Line
  pub line : Line
  pub rest : List Line
  pub why : Why
  pub are : lines ≡ before ++ line ∷ rest
  pub history : AreHistory setting (reverse before)
  pub breaks : LineBreaks setting (marks_of (reverse before)) line.said why
  pub told : TellsBreak setting before line why text

-- what is told of lines
abbrev pub IsHistoryTold : Setting → List Line → List ℕ → Type 0
IsHistoryTold setting lines text = IsLegalTold setting lines text ⊎ IsBreakTold setting lines text
