-- The arguments of a line. A line is the list of its words; the first word is at 0, and its arguments stand after it.
use Rattle.std.specs.Prelude.{ℕ, List, Bool, Result, Ok, Err, length, map, slice_get, ◌&&◌, nat_le, nat_lt, if◌then◌else◌, ok_or, bytes_eq}
use Rattle.line_reader.specs.{declared.cause.Cause.Cause, declared.cause.Cause.TheVariants.S1, declared.cause.Cause.TheVariants.S3}
use Rattle.line_reader.specs.{declared.cause.Cause.TheVariants.S4, declared.cause.Cause.TheVariants.S5, declared.cause.Cause.TheVariants.S6}
use Rattle.{script_tokens.specs.declared.token.Token.Token, line_reader.specs.Causes.◌>>=◌, line_reader.specs.Numerals.number_of}

-- the texts of a line's tokens
abbrev pub texts : List Token → List (List ℕ)
texts tokens = map (λ (t : Token). t.text.now) tokens

-- what was lent, as the bytes that it is
abbrev pub lent : {B : Type 0} → (B → List ℕ) → Result B Cause → Result (List ℕ) Cause
lent now (Ok w) = Ok (now w)
lent now (Err e) = Err e

-- the word is that one
unfoldable pub is_word : List ℕ → List ℕ → Bool
is_word word name = bytes_eq word name

-- the word at a place of a line; S3 where the line ends before it
unfoldable pub word_at : List (List ℕ) → ℕ → Result (List ℕ) Cause
word_at words place = ok_or (slice_get words place) S3

-- the number at a place: S3, then S1, then S5
unfoldable pub number_at : List (List ℕ) → ℕ → ℕ → ℕ → Result ℕ Cause
number_at words place least most = do
  word ← word_at words place
  n ← ok_or (number_of word) S1
  if nat_le least n && nat_le n most then Ok n else Err S5

-- the number of a capability, a page, a root entry or a frame, as written
abbrev pub name_at : List (List ℕ) → ℕ → Result ℕ Cause
name_at words place = number_at words place 0 65535

-- an amount of ticks that is moved
abbrev pub amount_at : List (List ℕ) → ℕ → Result ℕ Cause
amount_at words place = number_at words place 0 4000000000

-- the core at a place, below the number of cores: S3, then S1, then S6
unfoldable pub core_at : List (List ℕ) → ℕ → ℕ → Result ℕ Cause
core_at words place cores = do
  word ← word_at words place
  n ← ok_or (number_of word) S1
  if nat_lt n cores then Ok n else Err S6

-- nothing stands after the last argument, at `place` or later; else S4
unfoldable pub end_at : List (List ℕ) → ℕ → Result Unit Cause
end_at words place = if nat_le (length words) place then Ok tt else Err S4
