-- What the command `check` writes.
use Rattle.std.specs.Prelude.{◌≡◌, ℕ, List, Ok}
use Rattle.{history_reader.specs.History, history_reader.specs.history_of, line_reader.specs.declared.cause.ReadFault.ReadFault}
use Rattle.{line_reader.specs.Lines.Fails, marked_history.specs.declared.marks.Verdict.Verdict, marked_history.specs.Verdicts.IsVerdict}
use Rattle.{check_run.specs.Texts.verdict_text}

-- The text is that of the verdict on a given history.
pub record IsJudged (history : History) (written : List ℕ) : Type 0 where
  pub verdict : Verdict
  pub is_verdict : IsVerdict history.setup history.lines verdict
  pub text : written ≡ verdict_text verdict

-- The text that bytes come to: they are a given history, and the text is that of its verdict.
pub record IsChecked (source written : List ℕ) : Type 0 where
  pub history : History
  pub read : history_of source ≡ Ok history
  pub judged : IsJudged history written

-- The fault of bytes that are no given history: their first one, unless memory has run out.
abbrev pub IsCheckFault : List ℕ → ReadFault → Type 0
IsCheckFault source e = Fails e (history_of source)
