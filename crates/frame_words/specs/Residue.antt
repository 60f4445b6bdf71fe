-- Integers modulo 2 ^ 16.
use Rattle.std.specs.Prelude.{ℕ, ℤ, pos, negsuc, ◌-◌, ◌%◌, ◌^◌, nat_lt, if◌then◌else◌}

-- the number below 2 ^ 16 that differs from an integer by a multiple of 2 ^ 16
abbrev pub residue : ℤ → ℕ
residue (pos n) = n % 2 ^ 16
residue (negsuc n) = 2 ^ 16 - 1 - n % 2 ^ 16

-- the integer from -2 ^ 15 to 2 ^ 15 - 1 that has this residue
abbrev pub signed : ℕ → ℤ
signed n = if nat_lt n (2 ^ 15) then pos n else negsuc (2 ^ 16 - 1 - n)

-- the integer from -2 ^ 15 to 2 ^ 15 - 1 that differs from this one by a multiple of 2 ^ 16
abbrev pub wrapped : ℤ → ℤ
wrapped (pos n) = signed (n % 2 ^ 16)
wrapped (negsuc n) = signed (2 ^ 16 - 1 - n % 2 ^ 16)
