-- Numbers as they are written.
use Rattle.std.specs.Prelude.{ℕ, List, [], ◌∷◌, Bool, true, Option, Some, None, ◌+◌, ◌-◌, ◌*◌, ◌^◌, ◌&&◌, length, nat_le, nat_lt}
use Rattle.std.specs.Prelude.{if◌then◌else◌}

-- a decimal digit
abbrev pub is_digit : ℕ → Bool
is_digit b = nat_le 48 b && nat_le b 57

-- each of them is a digit
abbrev pub all_digits : List ℕ → Bool
all_digits [] = true
all_digits (b ∷ bs) = is_digit b && all_digits bs

-- one or more digits; leading zeros are allowed
abbrev pub is_digits : List ℕ → Bool
is_digits word = nat_lt 0 (length word) && all_digits word

-- the number that digits stand for, after those that stand for n
abbrev pub value_from : ℕ → List ℕ → ℕ
value_from n [] = n
value_from n (b ∷ bs) = value_from (10 * n + (b - 48)) bs

-- the number that digits stand for
abbrev pub value_of : List ℕ → ℕ
value_of word = value_from 0 word

-- a word as a number of at most 2^64 - 1
unfoldable pub number_of : List ℕ → Option ℕ
number_of word = if is_digits word && nat_lt (value_of word) (2 ^ 64) then Some (value_of word) else None
