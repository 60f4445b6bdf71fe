-- The lines of a text, taken one after another up to the first fault.
use Rattle.std.specs.Prelude.{◌≡◌, ℕ, List, [], ◌∷◌, ◌++◌, Result, Ok, Err, ◌+◌, ◌==◌, ◌↔◌, if◌then◌else◌}
use Rattle.script_tokens.specs.{declared.scanning.ByteFault.TheVariants.NotAscii, declared.scanning.ByteFault.TheVariants.TooManyLines}
use Rattle.script_tokens.specs.{declared.scanning.Ending.Ending, declared.scanning.Ending.TheVariants.Whole}
use Rattle.script_tokens.specs.{declared.scanning.Ending.TheVariants.Fault as Faulty, Words.Word}
use Rattle.line_reader.specs.{declared.cause.Cause.Cause, declared.cause.Cause.TheVariants.S8, declared.cause.Cause.TheVariants.S9}
use Rattle.line_reader.specs.{declared.cause.LineFault.LineFault, declared.cause.ReadFault.ReadFault}

-- ---- lines

-- a line with words: its number, counted from 1, and the texts of its words
pub record Row : Type 0 where
  pub number : ℕ
  pub words : List (List ℕ)

-- a word in front of the lines that follow: it is of the first of them where that has its number
abbrev pub with_word : Word → List Row → List Row
with_word w [] = record { number = w.line; words = w.text ∷ [] } ∷ []
with_word w (row ∷ rows) =
    if w.line == row.number
    then record { number = row.number; words = w.text ∷ row.words } ∷ rows
    else record { number = w.line; words = w.text ∷ [] } ∷ row ∷ rows

-- the lines that have words
abbrev pub rows_of : List Word → List Row
rows_of [] = []
rows_of (w ∷ ws) = with_word w (rows_of ws)

-- how many words at the front stand in that line
abbrev pub words_in : ℕ → List Word → ℕ
words_in number [] = 0
words_in number (w ∷ ws) = if w.line == number then words_in number ws + 1 else 0

-- ---- what they lead to

-- the first fault: its line and its cause
pub record First_fault : Type 0 where
  pub line : ℕ
  pub cause : Cause

-- what was read, or the first fault, at that line
abbrev pub at_line : {A : Type 0} → ℕ → Result A Cause → Result A First_fault
at_line number (Ok x) = Ok x
at_line number (Err c) = Err (record { line = number; cause = c })

abbrev pub and_then : {A B : Type 0} → Result A First_fault → (A → Result B First_fault) → Result B First_fault
and_then (Ok x) f = f x
and_then (Err e) f = Err e

-- what a line of this number and these words makes of what the lines before it say, or the first fault
abbrev pub Step : Type 0 → Type 0
Step A = A → ℕ → List (List ℕ) → Result A First_fault

-- what lines make of it, one after another, or the first fault
abbrev pub lines_from : {A : Type 0} → Step A → A → List Row → Result A First_fault
lines_from step d [] = Ok d
lines_from step d (row ∷ rows) = and_then (step d row.number row.words) (λ more. lines_from step more rows)

-- the end of the bytes: how many lines they have, or the byte or line that ended them, S8 or S9
abbrev pub whole_lines : Ending → Result ℕ First_fault
whole_lines (Faulty (NotAscii number)) = Err (record { line = number; cause = S8 })
whole_lines (Faulty TooManyLines) = Err (record { line = 20001; cause = S9 })
whole_lines (Whole lines) = Ok lines

-- ---- the first fault

-- where the first fault is found: the lines before one are all taken, and that one is not
pub record IsFoundAt {A : Type 0} (step : Step A) (d : A) (rows : List Row) (f : First_fault) : Type 0 where
  pub before : List Row
  pub row : Row
  pub after : List Row
  pub lines : rows ≡ before ++ row ∷ after
  pub so_far : A
  pub taken : lines_from step d before ≡ Ok so_far
  pub fault : step so_far row.number row.words ≡ Err f

-- lines have that first fault exactly where it is so found: no line after it matters
abbrev pub FindsFirst : {A : Type 0} → Step A → Type 0
FindsFirst {A} step = (d : A) (rows : List Row) (f : First_fault) → (lines_from step d rows ≡ Err f) ↔ IsFoundAt step d rows f

-- ---- what a reader answers

-- a line that was taken leaves that value, unless memory has run out
abbrev pub Takes : {A : Type 0} → Result Unit LineFault → A → Result A Cause → Type 0
Takes (Ok done) new read = read ≡ Ok new
Takes (Err (LineFault.Cause c)) new read = read ≡ Err c
Takes (Err LineFault.Memory) new read = Unit {0}

-- an answer that is none tells the first fault, unless memory has run out
abbrev pub Fails : {A : Type 0} → ReadFault → Result A First_fault → Type 0
Fails (ReadFault.Script number c) read = read ≡ Err (record { line = number; cause = c })
Fails ReadFault.Memory read = Unit {0}

-- the fault of a line
abbrev pub fault_at : ℕ → LineFault → ReadFault
fault_at number (LineFault.Cause c) = ReadFault.Script number c
fault_at number LineFault.Memory = ReadFault.Memory

-- lines that were taken leave that draft, unless memory has run out
abbrev pub Leads : {A : Type 0} → Result Unit ReadFault → A → Result A First_fault → Type 0
Leads (Ok done) new read = read ≡ Ok new
Leads (Err e) new read = Fails e read

-- the answer gives what was to be read, unless memory has run out
abbrev pub Gives : {X A : Type 0} → (X → A) → Result X ReadFault → Result A First_fault → Type 0
Gives view (Ok x) read = read ≡ Ok (view x)
Gives view (Err e) read = Fails e read
