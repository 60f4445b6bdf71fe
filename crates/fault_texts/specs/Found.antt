-- What is found of a fault, line by line.
use Rattle.std.specs.Prelude.{ℕ, ◌==◌, nat_lt, List, [], ◌++◌, Bool, true, false, Ok, string_bytes, if◌then◌else◌}
use Rattle.line_forms.specs.{declared.context.Reading.Reading, declared.context.Context.Context, Contexts.no_context}
use Rattle.{line_reader.specs.declared.cause.Cause.Cause, line_reader.specs.Lines.Step, line_forms.specs.Contexts.context_after}
use Rattle.{fault_texts.specs.declared.finder.Finder.Finder, fault_texts.specs.Pieces.fault_line_text}

-- a fault's line and cause; what the lines before its line have come to; whether its line was found, and what is told of it
pub record Found : Type 0 where
  pub line : ℕ
  pub cause : Cause
  pub context : Context
  pub seen : Bool
  pub text : List ℕ

-- seen without where it lies in memory
abbrev pub found_view : Finder → Found
found_view f = record { line = f.line; cause = f.cause; context = f.context; seen = f.seen; text = string_bytes f.text }

-- what no lines tell of a fault
abbrev pub no_found : Reading → ℕ → Cause → Found
no_found reading line cause = record { line = line; cause = cause; context = no_context reading; seen = false; text = [] }

-- with one line more: one before that of the fault, or that line; others are passed over
abbrev pub found_after : Found → ℕ → List (List ℕ) → Found
found_after d number words =
    if nat_lt number d.line then record d { context = context_after d.context words }
    else (if number == d.line then record d { seen = true; text = d.text ++ fault_line_text d.context words d.cause }
    else d)

-- no line of it is a fault
abbrev pub find_step : Step Found
find_step d number words = Ok (found_after d number words)

-- nothing is asked of it
abbrev pub AnyFound : Found → Type 0
AnyFound d = Unit {0}
