-- What may stand in the place of a line.
use Rattle.std.specs.Prelude.{◌≡◌, ◌+◌, ◌++◌}
use Rattle.open_calls.specs.seq_state.specs.{ℕ, Bool, true, false, List, reverse, codes, decimal, string_bytes, Setting}
use Rattle.open_calls.specs.seq_state.specs.{reply_text, Call, Reply, State, alone}
use Rattle.marked_history.specs.{phase, state, marks_of, entered}
use Rattle.open_calls.specs.{declared.outlooks.Outlook.Outlook, Leads.names_text, Told.told}
use Rattle.history_options.specs.{declared.forms.Form.Form, declared.forms.Place.Place, declared.forms.Place.TheVariants.Without}
use Rattle.history_options.specs.{declared.forms.Place.TheVariants.Done, declared.forms.Place.TheVariants.During, Forms.core_of}
use Rattle.history_options.specs.{Forms.place_of, Forms.marks_at, Replies.replies_of, Options.AreOptions}
use Rattle.{spk_nums.specs.Texts.call_text, marked_history.specs.declared.marks.Line.Line}
use Rattle.{check_run.specs.history_check.specs.Judging.at_of}

-- where the core is in no call: this is the number of its next one
abbrev pub out_text : ℕ → ℕ → List ℕ
out_text c next = codes "core " ++ decimal c ++ codes " is in no call\nhere may stand:\n  enter " ++ decimal c ++ codes " CALL\n  "
    ++ decimal c ++ codes "." ++ decimal next ++ codes " CALL = REPLY\n"

-- where its call is decided
abbrev pub done_text : ℕ → List ℕ
done_text c = codes "core " ++ decimal c ++ codes " is in a call that is decided\nhere may stand:\n  return " ++ decimal c ++ codes "\n"

-- which call the core is in
abbrev pub in_text : ℕ → Call → List ℕ
in_text c call = codes "core " ++ decimal c ++ codes " is in " ++ call_text call ++ codes "\n"

-- whether a reply is no refusal
abbrev pub is_ok : Reply → Bool
is_ok (Reply.Ok v) = true
is_ok _ = false

-- what is said before the first reply in order
abbrev pub first_words : Bool → List ℕ
first_words true = codes "no cause of refusal stands: "
first_words false = codes "the first cause of refusal: "

-- the first reply in order: the first cause of refusal that stands, or that none does
abbrev pub first_text : Reply → List ℕ
first_text r = first_words (is_ok r) ++ reply_text r ++ codes "\n"

-- the lines before the options: the call, what its names lead to, and the first reply in order
abbrev pub finding_text : ℕ → Call → List ℕ → Reply → List ℕ
finding_text c call names first = in_text c call ++ names ++ first_text first ++ codes "here may stand:\n"

abbrev pub found_text : ℕ → Call → Outlook → List ℕ
found_text c call found = finding_text c call (string_bytes found.names) found.alone

-- what is told of the call of core c that is open in state s, and which a reply in the place of a line after these would decide
pub record IsCallAdvice (setting : Setting) (before : List Line) (number : ℕ) (s : State) (c : ℕ) (call : Call) (form : Form)
    (text : List ℕ) : Type 0 where
  pub options : List ℕ
  pub are : AreOptions setting before number c call form (replies_of setting.cores (alone s c call) (told s c call)) options
  pub is_text : text ≡ finding_text c call (names_text s c call) (alone s c call) ++ options

-- what may stand at this place of a line after these
abbrev pub IsAdviceAt : Setting → List Line → ℕ → ℕ → Place → List ℕ → Type 0
IsAdviceAt setting before number c (Without next) text = text ≡ out_text c next
IsAdviceAt setting before number c Done text = text ≡ done_text c
IsAdviceAt setting before number c (During call form) text =
    IsCallAdvice setting before number (state setting (marks_at (marks_of (reverse before)) c call form)) c call form text

-- where a line after these stands
abbrev pub place_after : List Line → Line → Place
place_after before line =
    place_of line.said (at_of (phase (marks_of (reverse before)) (core_of line.said)))
    (entered (marks_of (reverse before)) (core_of line.said) + 1)

-- what may stand in the place of a line after these
abbrev pub IsAdvice : Setting → List Line → Line → List ℕ → Type 0
IsAdvice setting before line text = IsAdviceAt setting before line.number (core_of line.said) (place_after before line) text

-- a text has this after what stood there
pub record Adds (Tells : List ℕ → Type 0) (old new : List ℕ) : Type 0 where
  pub more : List ℕ
  pub tells : Tells more
  pub added : new ≡ old ++ more

abbrev pub AddsCallAdvice : Setting → List Line → ℕ → ℕ → Call → Form → List ℕ → List ℕ → Type 0
AddsCallAdvice setting before number c call form old new =
    Adds (IsCallAdvice setting before number (state setting (marks_at (marks_of (reverse before)) c call form)) c call form) old new

abbrev pub AddsAdvice : Setting → List Line → Line → List ℕ → List ℕ → Type 0
AddsAdvice setting before line old new = Adds (IsAdvice setting before line) old new
