use Rattle.std.proofs.Common.{◌≡◌, ℕ, ◌-◌, ◌*◌, ◌%◌, ◌<◌, ◌^◌, ◌==◌, true, false, if◌then◌else◌, bit_and, bit_or, arith, w8}
use Rattle.std.specs.Int.{bit_at}
use Rattle.std.proofs.lemmas.Bool.Decides.{nat_tests}
use Rattle.std.proofs.lemmas.Nat.Bits.{bit_at_set_same, bit_at_set_other, bit_at_clear_same, bit_at_clear_other}

-- setting bit k puts core k in and keeps the others
pub set_bit : (n k other : ℕ) → k < 8
    → (bit_at (bit_or n (1 * 2 ^ k % 256)) other == 1) ≡ (if other == k then true else (bit_at n other == 1))
set_bit n k other small = grind (arith, nat_tests, bit_at_set_same w8 n k small, bit_at_set_other w8 n k small other)

-- clearing bit k takes core k out and keeps the others
pub clear_bit : (n k other : ℕ) → k < 8 → other < 8
    → (bit_at (bit_and n (255 - 1 * 2 ^ k % 256)) other == 1) ≡ (if other == k then false else (bit_at n other == 1))
clear_bit n k other small within = grind (arith, nat_tests, bit_at_clear_same w8 n k small, bit_at_clear_other w8 n k small other within)
