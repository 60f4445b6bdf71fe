-- What is explained goes by what the command that is named makes of the bytes.
use Rattle.trace_run.specs.lone_kernel.specs.kernel_history.proofs.{◌≡◌, ◌==◌, ℕ, List, [], ◌++◌, Result, Ok, Err, get_or, refl, sym, ◌∙◌}
use Rattle.trace_run.specs.lone_kernel.specs.kernel_history.proofs.{ap, subst, inl, inr, append-nil, false≢true}
use Rattle.explain_run.specs.check_run.specs.history_reader.specs.{History, history_of}
use Rattle.load_maker.specs.script_reader.specs.line_reader.specs.{declared.cause.Cause.Cause, Lines.First_fault}
use Rattle.explain_run.specs.history_options.specs.marked_history.specs.declared.marks.Verdict.TheVariants.{Legal, Illegal}
use Rattle.explain_run.specs.fault_texts.specs.Told.{rest_text, fault_text}
use Rattle.explain_run.specs.Explained.{IsAccepted, IsTold, IsToldOf, IsExplained}
use Rattle.speck_run.specs.{declared.words.Command.TheVariants.Explain, Script.MadeBy, Script.AreInput, Top.script_line, Explains.named}
use Rattle.speck_run.specs.{Explains.BeginsWith, Explains.IsOfFault, Explains.TellsVerdict, Explains.TellsTaken, Explains.GoesByCommand}
use Rattle.{load_maker.specs.script_reader.specs.Readings.script_of, explain_run.specs.ends_reader.specs.Inputs.input_of}
use Rattle.{one_core.specs.sched_reader.specs.Inputs.input_of as sched_input_of}
use Rattle.{explain_run.specs.history_options.specs.marked_history.specs.declared.marks.Why.Why}
use Rattle.{explain_run.specs.check_run.specs.Texts.verdict_text}
use Rattle.{explain_run.specs.line_forms.specs.declared.context.Reading.Reading, explain_run.specs.fault_texts.proofs.Telling.begins}
use Rattle.{explain_run.specs.history_options.specs.Texts.said_line}
use Rattle.explain_run.specs.line_forms.specs.declared.context.Reading.TheVariants as reading

same_fault : {I : Type 0} (f g : First_fault) (r : Result I First_fault) → r ≡ Err f → r ≡ Err g → f ≡ g
same_fault f g r p q = cc

same_input : {I : Type 0} (a b : I) (r : Result I First_fault) → r ≡ Ok a → r ≡ Ok b → a ≡ b
same_input a b r p q = cc

-- What is told of a fault begins with its line.
begins_so : (r : Reading) (source : List ℕ) (line : ℕ) (cause : Cause)
    → BeginsWith (script_line line cause) (fault_text r source line cause)
begins_so r source line cause = record { rest = rest_text r source line cause; is = begins r source line cause }

refused_by : {I : Type 0} (read : Result I First_fault) (Tells : I → List ℕ → Type 0) (r : Reading) (source text : List ℕ)
    (line : ℕ) (cause : Cause) → read ≡ Err (record { line = line; cause = cause }) → IsTold read Tells r source text
    → BeginsWith (script_line line cause) text
refused_by read Tells r source text line cause is (inl t) = let wrong = sym is ∙ t.is_input in cc
refused_by read Tells r source text line cause is (inr t) =
    let same = same_fault (record { line = line; cause = cause }) (record { line = t.line; cause = t.cause }) read is t.is_fault in
    subst (λ (x : List ℕ). BeginsWith (script_line line cause) x) (sym t.told)
    (subst (λ (f : First_fault). BeginsWith (script_line line cause) (fault_text r source f.line f.cause)) same (begins_so r source line cause))

taken_by : {I : Type 0} (read : Result I First_fault) (Tells : I → List ℕ → Type 0) (r : Reading) (source text : List ℕ) (input : I)
    → read ≡ Ok input → IsTold read Tells r source text → Tells input text
taken_by {I} read Tells r source text input is (inl t) =
    subst (λ (i : I). Tells i text) (same_input t.input input read t.is_input is) t.tells
taken_by {I} read Tells r source text input is (inr t) = let wrong = sym is ∙ t.is_fault in cc

told_of : (r : Reading) (bytes text : List ℕ) → MadeBy (Explain r) bytes text → IsExplained r bytes text
told_of r bytes text m =
    subst (λ (b : List ℕ). IsExplained r b text) (sym (same_input bytes m.input (Ok bytes) refl m.is_input)) m.is_text

refused_of : (r : Reading) (bytes text : List ℕ) → IsExplained r bytes text → IsOfFault r bytes text
refused_of reading.Script bytes text t = record {
  begins = λ line cause is.
      refused_by (script_of bytes) (IsAccepted reading.Script) reading.Script bytes text line cause is t;
}
refused_of reading.Ends bytes text t = record {
  begins = λ line cause is. refused_by (input_of bytes) (IsAccepted reading.Ends) reading.Ends bytes text line cause is t;
}
refused_of reading.Sched bytes text t = record {
  begins = λ line cause is.
      refused_by (sched_input_of bytes) (IsAccepted reading.Sched) reading.Sched bytes text line cause is t;
}
refused_of reading.History bytes text t = record {
  begins = λ line cause is. refused_by (history_of bytes) IsToldOf reading.History bytes text line cause is t;
}

-- What is told of a given history begins with its verdict: the words of an illegal one are no words of a legal one.
not_legal : (number decided : ℕ) (w : Why) → verdict_text (Illegal number w) ≡ verdict_text (Legal decided) → ⊥
not_legal number decided w same = false≢true (ap (λ (x : List ℕ). get_or x 0 0 == 108) same)

verdict_first : (bytes text : List ℕ) (history : History) → history_of bytes ≡ Ok history → IsToldOf history text → TellsVerdict bytes text
verdict_first bytes text history is (inl t) = record {
  verdict = verdict_text (Legal t.decided);
  made = record {
    input = history;
    is_input = is;
    is_text = record { verdict = Legal t.decided; is_verdict = t.legal; text = refl };
  };
  begins = record { rest = []; is = t.is_text ∙ sym (append-nil (verdict_text (Legal t.decided))) };
  alone = λ decided same. t.is_text;
}
verdict_first bytes text history is (inr t) = record {
  verdict = verdict_text (Illegal t.line.number t.why);
  made = record {
    input = history;
    is_input = is;
    is_text = record {
      verdict = Illegal t.line.number t.why;
      is_verdict = record {
        before = t.before;
        line = t.line;
        rest = t.rest;
        are = t.are;
        is_number = refl;
        history = t.history;
        breaks = t.breaks;
      };
      text = refl;
    };
  };
  begins = record { rest = said_line t.line.said ++ t.told.advice; is = t.told.is_text };
  alone = λ decided same. absurd (not_legal t.line.number decided t.why same);
}

taken_of : (r : Reading) (bytes text : List ℕ) → IsExplained r bytes text → AreInput (named r) bytes → TellsTaken r bytes text
taken_of reading.Script bytes text t a =
    taken_by (script_of bytes) (IsAccepted reading.Script) reading.Script bytes text a.input a.is_input t
taken_of reading.Ends bytes text t a =
    taken_by (input_of bytes) (IsAccepted reading.Ends) reading.Ends bytes text a.input a.is_input t
taken_of reading.Sched bytes text t a =
    taken_by (sched_input_of bytes) (IsAccepted reading.Sched) reading.Sched bytes text a.input a.is_input t
taken_of reading.History bytes text t a =
    verdict_first bytes text a.input a.is_input (taken_by (history_of bytes) IsToldOf reading.History bytes text a.input a.is_input t)

pub goes_by_command : (r : Reading) (bytes text : List ℕ) → MadeBy (Explain r) bytes text → GoesByCommand r bytes text
goes_by_command r bytes text m =
    let t = told_of r bytes text m in record { refused = refused_of r bytes text t; taken = taken_of r bytes text t }
