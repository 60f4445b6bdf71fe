-- What the command `explain` writes.
use Rattle.std.specs.Prelude.{◌≡◌, ◌⊎◌, ℕ, List, Result, Ok, Err, codes}
use Rattle.history_options.specs.history_reader.specs.{History, history_of}
use Rattle.line_reader.specs.{declared.cause.Cause.Cause, Lines.First_fault}
use Rattle.{ends_reader.specs.script_reader.specs.Readings.script_of, ends_reader.specs.Inputs.input_of}
use Rattle.{sched_reader.specs.Inputs.input_of as sched_input_of}
use Rattle.{history_options.specs.Told.IsHistoryTold, line_forms.specs.declared.context.Reading.Reading, fault_texts.specs.Told.fault_text}

-- the line that tells that bytes are read
abbrev pub accepted_text : Reading → List ℕ
accepted_text Reading.Script = codes "accepted: a script\n"
accepted_text Reading.Ends = codes "accepted: a script with endpoint calls\n"
accepted_text Reading.Sched = codes "accepted: a script of one core with tasks\n"
accepted_text Reading.History = codes "accepted: a given history\n"

-- the bytes are read, and the text is this of what they say
pub record IsRead {I : Type 0} (read : Result I First_fault) (Tells : I → List ℕ → Type 0) (text : List ℕ) : Type 0 where
  pub input : I
  pub is_input : read ≡ Ok input
  pub tells : Tells input text

-- the bytes are refused, and the text is that of their first fault
pub record IsRefused {I : Type 0} (read : Result I First_fault) (r : Reading) (source text : List ℕ) : Type 0 where
  pub line : ℕ
  pub cause : Cause
  pub is_fault : read ≡ Err (record { line = line; cause = cause })
  pub told : text ≡ fault_text r source line cause

-- the text is this of what the bytes say, or that of their first fault
abbrev pub IsTold : {I : Type 0} → Result I First_fault → (I → List ℕ → Type 0) → Reading → List ℕ → List ℕ → Type 0
IsTold read Tells r source text = IsRead read Tells text ⊎ IsRefused read r source text

-- that they are read
abbrev pub IsAccepted : {I : Type 0} → Reading → I → List ℕ → Type 0
IsAccepted r input text = text ≡ accepted_text r

-- what is told of a given history: that it is legal, or of the first line with which none goes on
abbrev pub IsToldOf : History → List ℕ → Type 0
IsToldOf history text = IsHistoryTold history.setup history.lines text

-- what is told of bytes, by what they are to be
abbrev pub IsExplained : Reading → List ℕ → List ℕ → Type 0
IsExplained Reading.Script source text = IsTold (script_of source) (IsAccepted Reading.Script) Reading.Script source text
IsExplained Reading.Ends source text = IsTold (input_of source) (IsAccepted Reading.Ends) Reading.Ends source text
IsExplained Reading.Sched source text = IsTold (sched_input_of source) (IsAccepted Reading.Sched) Reading.Sched source text
IsExplained Reading.History source text = IsTold (history_of source) IsToldOf Reading.History source text
