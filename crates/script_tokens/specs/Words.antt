-- The words of a script's bytes, and the first byte or line that may not stand there.
use Rattle.std.specs.Prelude.{◌≡◌, ℕ, List, [], ◌∷◌, Bool, true, false, Option, Some, None, ◌==◌, ◌||◌, not, nat_lt, count_by, filter, map}
use Rattle.std.specs.Prelude.{slice_get, slice_range, length, ◌+◌, ◌-◌, ◌<◌, ◌≤◌, if◌then◌else◌}
use Rattle.script_tokens.specs.{declared.scanning.ByteFault.ByteFault, declared.scanning.ByteFault.TheVariants.NotAscii}
use Rattle.script_tokens.specs.{declared.scanning.ByteFault.TheVariants.TooManyLines, declared.scanning.TokenFault.TokenFault}
use Rattle.script_tokens.specs.{declared.scanning.Ending.Ending, declared.scanning.Ending.TheVariants.Whole}
use Rattle.script_tokens.specs.{declared.scanning.Ending.TheVariants.Fault, declared.token.Token.Token, Bytes.is_feed, Bytes.is_hash}
use Rattle.script_tokens.specs.{Bytes.is_word_byte, Bytes.is_allowed}

-- where a word stands: its line, counted from 1, and its bytes from start up to end
pub record Span : Type 0 where
  pub line : ℕ
  pub start : ℕ
  pub end : ℕ

-- the bytes from start up to here are of one word, which goes on where the first of the words that follow begins here
abbrev pub joined : ℕ → ℕ → ℕ → List Span → List Span
joined line start here [] = record { line = line; start = start; end = here } ∷ []
joined line start here (w ∷ ws) =
    if w.start == here
    then record { line = w.line; start = start; end = w.end } ∷ ws
    else record { line = line; start = start; end = here } ∷ w ∷ ws

-- the words of the bytes from the place `here` on, in `line`, where a comment may have begun
abbrev pub spans : ℕ → ℕ → Bool → List ℕ → List Span
spans line here comment [] = []
spans line here comment (b ∷ bs) =
    if is_feed b then spans (line + 1) (here + 1) false bs
    else (if comment || is_hash b then spans line (here + 1) true bs
    else (if is_word_byte b then joined line here (here + 1) (spans line (here + 1) false bs)
    else spans line (here + 1) false bs))

-- the first fault of the bytes from `line` on: a line past the last that may be, else a byte that may not stand there
abbrev pub first_fault : ℕ → List ℕ → Option ByteFault
first_fault line [] = None
first_fault line (b ∷ bs) =
    if nat_lt 20000 line then Some TooManyLines
    else (if is_allowed b (slice_get bs 0) then first_fault (if is_feed b then line + 1 else line) bs
    else Some (NotAscii line))

-- there is a last byte, and it is no line feed
abbrev pub ends_open : Option ℕ → Bool
ends_open None = false
ends_open (Some b) = not (is_feed b)

-- the number of lines: the line feeds, and one more where bytes follow the last of them
abbrev pub line_count : List ℕ → ℕ
line_count source = count_by is_feed source + (if ends_open (slice_get source (length source - 1)) then 1 else 0)

abbrev pub ending_from : Option ByteFault → ℕ → Ending
ending_from None lines = Whole lines
ending_from (Some fault) lines = Fault fault

-- how a source ends: whole, with its number of lines, or with its first fault
abbrev pub ending_of : List ℕ → Ending
ending_of source = ending_from (first_fault 1 source) (line_count source)

-- a whole source has at most 20,000 lines
abbrev pub FewLines : Ending → Type 0
FewLines (Whole lines) = lines ≤ 20000
FewLines (Fault fault) = Unit {0}

-- the line of a fault
abbrev pub line_of_fault : ByteFault → ℕ
line_of_fault (NotAscii line) = line
line_of_fault TooManyLines = 20001

-- the fault that tokens tells of a source whose first fault is that, unless memory has run out
abbrev pub IsFault : TokenFault → Option ByteFault → Type 0
IsFault TokenFault.Memory fault = Unit {0}
IsFault (TokenFault.NotAscii line) fault = fault ≡ Some (NotAscii line)
IsFault TokenFault.TooManyLines fault = fault ≡ Some TooManyLines

-- what stands in the lines before the fault
abbrev pub before_fault : Ending → List Span → List Span
before_fault (Whole lines) words = words
before_fault (Fault fault) words = filter (λ (w : Span). nat_lt w.line (line_of_fault fault)) words

-- where the words of a source stand, up to its first fault, in order
abbrev pub spans_of : List ℕ → List Span
spans_of source = before_fault (ending_of source) (spans 1 0 false source)

-- a word: its bytes, and where it stands
pub record Word : Type 0 where
  pub text : List ℕ
  pub line : ℕ
  pub start : ℕ
  pub end : ℕ

-- the word of the source that stands there
abbrev pub word_at : List ℕ → Span → Word
word_at source s = record { text = slice_range source s.start s.end; line = s.line; start = s.start; end = s.end }

-- the words of a source, up to its first fault, in order
abbrev pub words_of : List ℕ → List Word
words_of source = map (word_at source) (spans_of source)

-- a token, seen as a word
abbrev pub view : Token → Word
view t = record { text = t.text.now; line = t.line; start = t.start; end = t.end }

abbrev pub views : List Token → List Word
views ts = map view ts

-- each word has a byte, and ends before the next begins
abbrev pub Ascend : List Word → Type 0
Ascend [] = Unit {0}
Ascend (w ∷ []) = w.start < w.end
Ascend (w ∷ v ∷ ws) = (w.start < w.end) × (w.end < v.start) × Ascend (v ∷ ws)
