-- Sums of integers modulo 2 ^ 16.
use Rattle.act_fits.specs.act_states.proofs.{◌≡◌, ℤ, ◌+ℤ◌, arith, ◌∙◌, ap, residue}
use Rattle.{std.proofs.lemmas.Int.ints, kernel_history.specs.frame_words.proofs.ResidueLemmas.residue_sum}

turned : (a b : ℤ) → a +ℤ b ≡ b +ℤ a
turned a b = omega (arith, ints)

-- Integers of one residue have one residue still where the same is added.
pub residue_plus : (x z y : ℤ) → residue z ≡ residue y → residue (x +ℤ z) ≡ residue (x +ℤ y)
residue_plus x z y same = ap residue (turned x z) ∙ residue_sum z y x same ∙ ap residue (turned y x)

pub plus_residue : (x z y : ℤ) → residue x ≡ residue z → residue (x +ℤ y) ≡ residue (z +ℤ y)
plus_residue x z y same = residue_sum x z y same
