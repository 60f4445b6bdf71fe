-- That the text of a trace is read back, and found legal.
use Rattle.std.specs.Prelude.{◌≡◌}
use Rattle.marked_laws.specs.kernel_history.specs.{ℕ, All, List, length, Ok, Setting, Step, decisions_of, IsLegal}
use Rattle.marked_laws.specs.marked_history.specs.{declared.marks.Verdict.TheVariants.Legal, Verdicts.IsVerdict}
use Rattle.check_run.specs.{Texts.verdict_text, Checked.IsChecked}
use Rattle.trace_reads.specs.Texts.{history_told, EntersWithin, IsStepWithin, IsTextOf}
use Rattle.{marked_laws.specs.kernel_history.specs.Trace.Trace, trace_lines.specs.Traces.trace_text}
use Rattle.{check_run.specs.history_reader.specs.Inputs.history_of}

-- The text of each trace whose steps are in range is read as its marks.
abbrev pub MarksRead : Type 0
MarksRead = (version : ℕ) (setup : Setting) (t : Trace) → IsTextOf version setup t → All (IsStepWithin version setup.cores) t
    → history_of (trace_text version setup t) ≡ Ok (history_told setup t)

-- What is read of a trace's text is found legal, with this many decisions; and no other text may be written of it.
pub record IsFoundLegal (version : ℕ) (setup : Setting) (t : Trace) (decided : ℕ) : Type 0 where
  pub read : history_of (trace_text version setup t) ≡ Ok (history_told setup t)
  pub verdict : IsVerdict setup (history_told setup t).lines (Legal decided)
  pub checked : IsChecked (trace_text version setup t) (verdict_text (Legal decided))
  pub alone : (written : List ℕ) → IsChecked (trace_text version setup t) written → written ≡ verdict_text (Legal decided)

-- The text of each legal trace whose calls are in range is found legal, with as many decisions as the trace has.
abbrev pub TracesAreLegal : Type 0
TracesAreLegal = (version : ℕ) (setup : Setting) (t : Trace) → IsTextOf version setup t → IsLegal setup t
    → All (λ (e : Step). EntersWithin version e.enters) t → IsFoundLegal version setup t (length (decisions_of t))
