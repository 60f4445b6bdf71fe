-- Where in memory the words of a table lie.
use Rattle.std.specs.Prelude.{◌≡◌, ℕ, ◌+◌, ◌-◌, ◌*◌, ◌/◌, ◌<◌, List, length, slice_index}

-- how words lie: the place at which the first row begins, and how many places a row has
pub record SpreadValue : Type 0 where
  pub first : ℕ
  pub row : ℕ

-- by what a number is multiplied where it is to be divided by `row`: 2^64 - 1 divided by `row`, rounded down
abbrev pub reciprocal_of : ℕ → ℕ
reciprocal_of row = 18446744073709551615 / row

-- how many rows begin at or before a place: one at the first place, and one each `row` places after it
unfoldable pub rows_to : SpreadValue → ℕ → ℕ
rows_to s at = (at + s.row - s.first) / s.row

-- which word of the memory is that of a place: before each row stand 16 that are no place's
unfoldable pub position : SpreadValue → ℕ → ℕ
position s at = at + 16 * rows_to s at

-- the memory has these words at their positions, and ends where the next one would lie
pub record IsLaid (s : SpreadValue) (words memory : List ℕ) : Type 0 where
  pub count : length memory ≡ position s (length words)
  pub word : (i : ℕ) → i < length words → slice_index memory (position s i) ≡ slice_index words i
