-- What the pass over the bytes keeps.
use Rattle.std.specs.Prelude.{◌≡◌, slice_range, ℕ, List, [], ◌∷◌, Bool, Option, Some, None, nat_lt, not, ◌||◌, ◌+◌, if◌then◌else◌}
use Rattle.script_tokens.specs.{declared.scanning.ByteFault.ByteFault, declared.scanning.ByteFault.TheVariants.NotAscii}
use Rattle.script_tokens.specs.{declared.scanning.ByteFault.TheVariants.TooManyLines, declared.scanning.Place.Place}
use Rattle.script_tokens.specs.{declared.scanning.Place.TheVariants.Between, declared.scanning.Place.TheVariants.Word}
use Rattle.script_tokens.specs.{declared.scanning.Place.TheVariants.Comment, declared.token.Token.Token, Bytes.is_feed, Bytes.is_hash}
use Rattle.script_tokens.specs.{Bytes.is_word_byte, Bytes.is_allowed, Words.Span}

-- where a token stands
abbrev pub span_of : Token → Span
span_of t = record { line = t.line; start = t.start; end = t.end }

-- the text of a token is its part of the source
abbrev pub IsSlice : List ℕ → Token → Type 0
IsSlice source t = t.text.now ≡ slice_range source t.start t.end

-- the byte at `at`, which no comment holds, begins a word, goes on with one, or is between two
abbrev pub in_word : Option ℕ → ℕ → ℕ → Place
in_word None b at = if is_word_byte b then Word at else Between
in_word (Some start) b at = if is_word_byte b then Word start else Between

abbrev pub after_in : Place → ℕ → ℕ → Place
after_in Comment b at = Comment
after_in Between b at = if is_hash b then Comment else in_word None b at
after_in (Word start) b at = if is_hash b then Comment else in_word (Some start) b at

-- where the byte at `at` stands
abbrev pub place_after : Place → ℕ → ℕ → Place
place_after p b at = if is_feed b then Between else after_in p b at

-- where a byte of a word stands that is at `at`
abbrev pub within_word : Place → ℕ → Place
within_word Between at = Word at
within_word (Word start) at = Word start
within_word Comment at = Comment

-- where a blank stands
abbrev pub after_blank : Place → Place
after_blank Between = Between
after_blank (Word start) = Between
after_blank Comment = Comment

-- the word that ends before a byte
abbrev pub word_before : Place → ℕ → Option ℕ
word_before Between b = None
word_before (Word start) b = if is_word_byte b then None else Some start
word_before Comment b = None

-- the word that ends with the bytes
abbrev pub last_word : Place → Option ℕ
last_word Between = None
last_word (Word start) = Some start
last_word Comment = None

abbrev pub ended : Option ℕ → ℕ → ℕ → List Span
ended None line end = []
ended (Some start) line end = record { line = line; start = start; end = end } ∷ []

abbrev pub line_after : ℕ → ℕ → ℕ
line_after line b = if is_feed b then line + 1 else line

-- the fault of a line that is past the last that may be, or has a byte that may not stand there
abbrev pub fault_at : ℕ → ByteFault
fault_at line = if nat_lt 20000 line then TooManyLines else NotAscii line

-- the pass ends at a byte in that line
abbrev pub is_fault : ℕ → ℕ → Option ℕ → Bool
is_fault line b next = nat_lt 20000 line || not (is_allowed b next)

-- how many words the lines that are over have
abbrev pub whole_after : ℕ → ℕ → ℕ → ℕ
whole_after whole b count = if is_feed b then count else whole
