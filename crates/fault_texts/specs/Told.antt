-- What is told of the first fault of a text.
use Rattle.std.specs.Prelude.{ℕ, List, [], ◌++◌, Result, Ok, Err, codes, decimal, if◌then◌else◌}
use Rattle.line_reader.specs.{First_fault, rows_of, lines_from}
use Rattle.line_reader.specs.{declared.cause.Cause.Cause, Causes.cause_text}
use Rattle.fault_texts.specs.{Found.Found, Found.no_found, Found.find_step, Ends.wordless_text}
use Rattle.{script_tokens.specs.Words.words_of, line_forms.specs.declared.context.Reading.Reading}

-- the line of a fault, as it is told where the text is refused
abbrev pub head_text : ℕ → Cause → List ℕ
head_text line cause = codes "line " ++ (decimal line ++ (codes ": " ++ (cause_text cause ++ codes "\n")))

-- what to do: of the line of the fault, or of a fault without words
abbrev pub found_body : List ℕ → Found → List ℕ
found_body source d = if d.seen then d.text else wordless_text source d.context d.cause

-- what to do, by what the lines tell
abbrev pub body_text : List ℕ → Result Found First_fault → List ℕ
body_text source (Ok d) = found_body source d
body_text source (Err e) = []

-- what to do of a fault of a text, at that line
abbrev pub rest_text : Reading → List ℕ → ℕ → Cause → List ℕ
rest_text reading source line cause = body_text source (lines_from find_step (no_found reading line cause) (rows_of (words_of source)))

-- what is told of a fault of a text, at that line
unfoldable pub fault_text : Reading → List ℕ → ℕ → Cause → List ℕ
fault_text reading source line cause = head_text line cause ++ rest_text reading source line cause
