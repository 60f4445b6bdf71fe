-- The lines that may stand in the place of one.
use Rattle.std.specs.Prelude.{◌≡◌, ◌∷◌, ◌++◌, if◌then◌else◌}
use Rattle.open_calls.specs.seq_state.specs.{ℕ, List, [], Bool, true, false, Setting, Call, Reply}
use Rattle.marked_history.specs.{declared.marks.Said.Said, declared.marks.Line.Line, declared.marks.Verdict.Verdict}
use Rattle.marked_history.specs.{declared.marks.Verdict.TheVariants.Legal, declared.marks.Verdict.TheVariants.Illegal, Verdicts.IsVerdict}
use Rattle.history_options.specs.{declared.forms.Form.Form, Forms.with_form, Texts.said_line}

abbrev pub is_legal : Verdict → Bool
is_legal (Legal decided) = true
is_legal (Illegal number w) = false

-- whether lines go on with one that says this: the verdict on them, which is one (`one_verdict`)
pub record GoesOn (setting : Setting) (before : List Line) (number : ℕ) (said : Said) (goes : Bool) : Type 0 where
  pub verdict : Verdict
  pub is_verdict : IsVerdict setting (before ++ record { number = number; said = said } ∷ []) verdict
  pub legal : goes ≡ is_legal verdict

-- a line that may stand there, and nothing of one that may not
abbrev pub option_of : Bool → Said → List ℕ
option_of goes said = if goes then said_line said else []

-- the text has, of the lines with these replies, in order, each with which the lines before go on, and no other
abbrev pub AreOptions : Setting → List Line → ℕ → ℕ → Call → Form → List Reply → List ℕ → Type 0
AreOptions setting before number c call form [] text = text ≡ []
AreOptions setting before number c call form (r ∷ replies) text =
    (goes : Bool) × (rest : List ℕ) × GoesOn setting before number (with_form c call form r) goes
    × AreOptions setting before number c call form replies rest × (text ≡ option_of goes (with_form c call form r) ++ rest)

-- a text has these after what stood there
pub record AddsOptions (setting : Setting) (before : List Line) (number c : ℕ) (call : Call) (form : Form) (replies : List Reply)
    (old new : List ℕ) : Type 0 where
  pub options : List ℕ
  pub are : AreOptions setting before number c call form replies options
  pub added : new ≡ old ++ options
