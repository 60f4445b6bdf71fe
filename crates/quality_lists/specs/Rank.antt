-- How bad a list of qualities is.
use Rattle.std.specs.Prelude.{ℕ, ◌+◌, List, [], ◌∷◌}

-- The sum of its numbers: a merge makes it larger, or changes nothing.
abbrev pub rank : List (ℕ × ℕ) → ℕ
rank [] = 0
rank (x ∷ xs) = x.1 + rank xs
