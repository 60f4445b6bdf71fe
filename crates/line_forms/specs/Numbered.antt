-- `C.I`, with which the line of a call made whole begins.
use Rattle.std.specs.Prelude.{ℕ, ◌+◌, ◌==◌, ◌&&◌, List, [], ◌∷◌, take, drop, Bool, is_some, if◌then◌else◌}
use Rattle.{line_reader.specs.Numerals.is_digits, line_reader.specs.Numerals.number_of, line_forms.specs.Slots.is_below}

-- where the first dot of a word stands; its end where it has none
abbrev pub dot_at : List ℕ → ℕ
dot_at [] = 0
dot_at (b ∷ bs) = if b == 46 then 0 else dot_at bs + 1

-- digits, a dot, and digits
unfoldable pub is_numbered : List ℕ → Bool
is_numbered word = is_digits (take (dot_at word) word) && is_digits (drop (dot_at word + 1) word)

-- the number before the dot is below this one, and that after it is one
unfoldable pub is_numbered_below : List ℕ → ℕ → Bool
is_numbered_below word cores = is_below (take (dot_at word) word) cores && is_some (number_of (drop (dot_at word + 1) word))
