-- The text of a trace: the head of its script, then a line for each event, in the order of the trace. In the comment after a line
-- stands every step since the line before.
use Rattle.std.specs.Prelude.{◌∷◌, ◌++◌}
use Rattle.step_views.specs.kernel_history.specs.{ℕ, List, [], codes, Setting, Step}
use Rattle.trace_lines.specs.Steps.{step_text, event_lines}
use Rattle.{step_views.specs.kernel_history.specs.Trace.Trace, script_printer.specs.Printing.setup_lines}

-- What is written so far, and the text of the steps that no line has told yet.
pub record Told : Type 0 where
  pub lines : List ℕ
  pub steps : List ℕ

-- The end of a line: a comment with the steps that are told by it, and nothing where there is none.
abbrev pub line_end : List ℕ → List ℕ
line_end [] = 10 ∷ []
line_end (s ∷ steps) = codes " # " ++ (s ∷ steps) ++ 10 ∷ []

-- A line that is written so far ends, and tells all steps that no line has told yet.
abbrev pub line_ended : Told → Told
line_ended w = record { lines = w.lines ++ line_end w.steps; steps = [] }

-- A line is written.
abbrev pub line_told : Told → List ℕ → Told
line_told w line = line_ended (record { lines = w.lines ++ line; steps = w.steps })

-- The same of lines, one after another: the first tells the steps.
abbrev pub lines_told : Told → List (List ℕ) → Told
lines_told w [] = w
lines_told w (line ∷ lines) = lines_told (line_told w line) lines

-- After a step with these lines: where it has none, it is kept for the next one; else they tell it, after those kept.
abbrev pub step_told : Told → List ℕ → List (List ℕ) → Told
step_told w step [] = record { lines = w.lines; steps = w.steps ++ (step ++ codes "; ") }
step_told w step (line ∷ lines) = lines_told (record { lines = w.lines; steps = w.steps ++ step }) (line ∷ lines)

-- What is written after a trace, where this stands at the head.
abbrev pub told : List ℕ → Trace → Told
told head [] = record { lines = head; steps = [] }
told head (e ∷ t) = step_told (told head t) (step_text e) (event_lines e)

-- The text of a trace of a script of this version and setup.
abbrev pub trace_text : ℕ → Setting → Trace → List ℕ
trace_text version setup t = (told (setup_lines version setup) t).lines
