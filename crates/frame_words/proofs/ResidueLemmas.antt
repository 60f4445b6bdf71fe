-- Integers modulo 2 ^ 16: residues, what has them, and sums.
use Rattle.std.proofs.Common.{◌≡◌, ℕ, ℤ, pos, negsuc, ◌+ℤ◌, ◌-ℤ◌, ◌+◌, ◌-◌, ◌*◌, ◌/◌, ◌%◌, ◌^◌, ◌<◌, ◌≤◌, nat_lt, refl, subst, ap, sym, ◌∙◌}
use Rattle.std.proofs.Common.{arith, lt-ltb, le-ltb, ltb-true, ltb-false}
use Rattle.frame_words.specs.{NumberFits, residue, wrapped}
use Rattle.{std.proofs.lemmas.Int.ints, std.specs.Int.int_rem_euclid, spk_nums.proofs.Choices.chosen, frame_words.specs.Residue.signed}

-- the residue is what is left by a division by 2 ^ 16
euclid : (z : ℤ) → int_rem_euclid z (pos (2 ^ 16)) ≡ pos (residue z)
euclid (pos n) = refl
euclid (negsuc n) = refl

pub euclid_is : (z y d r : ℤ) → r ≡ int_rem_euclid z d → z ≡ y → d ≡ pos (2 ^ 16) → r ≡ pos (residue y)
euclid_is z y d r is same by = is ∙ ap (int_rem_euclid z) by ∙ euclid z ∙ ap (λ x. pos (residue x)) same

pub residue_small : (z : ℤ) → residue z < 2 ^ 16
residue_small (pos n) = omega arith
residue_small (negsuc n) = omega arith

-- a number below 2 ^ 16 is its own residue
pub residue_pos : (n : ℕ) → n < 2 ^ 16 → residue (pos n) ≡ n
residue_pos n small = omega arith

-- an integer within the range of counts, by its residue
pub low_signed : (n : ℕ) → n < 2 ^ 15 → signed n ≡ pos n
low_signed n low = rw (lt-ltb n (2 ^ 15) low)

pub high_signed : (n : ℕ) → 2 ^ 15 ≤ n → signed n ≡ negsuc (2 ^ 16 - 1 - n)
high_signed n high = rw (le-ltb n (2 ^ 15) high)

-- what was read from a residue
pub record IsSigned (n : ℕ) (z : ℤ) : Type 0 where
  pub in_range : NumberFits z
  pub number : residue z ≡ n

pub signed_is : (n : ℕ) → n < 2 ^ 16 → IsSigned n (signed n)
signed_is n small = chosen (nat_lt n (2 ^ 15)) _ _ (signed n) refl
    (λ low f. below (ltb-true n (2 ^ 15) low) f) (λ high f. above (ltb-false n (2 ^ 15) high) f)
  where
    below : n < 2 ^ 15 → pos n ≡ signed n → IsSigned n (signed n)
    below low f = subst (IsSigned n) f (record { in_range = low; number = omega arith })

    above : 2 ^ 15 ≤ n → negsuc (2 ^ 16 - 1 - n) ≡ signed n → IsSigned n (signed n)
    above high f = subst (IsSigned n) f (record { in_range = omega arith; number = omega arith })

pub signed_residue : (z : ℤ) → NumberFits z → signed (residue z) ≡ z
signed_residue (pos n) fits =
    let same : n % 2 ^ 16 ≡ n = omega arith in
    rw same (low_signed n fits)
signed_residue (negsuc n) fits =
    let same : n % 2 ^ 16 ≡ n = omega arith in
    let high : 2 ^ 15 ≤ 2 ^ 16 - 1 - n = omega arith in
    let back : 2 ^ 16 - 1 - (2 ^ 16 - 1 - n) ≡ n = omega arith in
    rw same (high_signed (2 ^ 16 - 1 - n) high ∙ ap negsuc back)

-- an integer that is wrapped is within the range of counts, has the same residue, and stays where it is within that range
pub wraps : (z : ℤ) → signed (residue z) ≡ wrapped z
wraps (pos n) = refl
wraps (negsuc n) = refl

pub wrapped_fits : (z : ℤ) → NumberFits (wrapped z)
wrapped_fits z = subst NumberFits (wraps z) (signed_is (residue z) (residue_small z)).in_range

pub residue_wrapped : (z : ℤ) → residue (wrapped z) ≡ residue z
residue_wrapped z = ap residue (sym (wraps z)) ∙ (signed_is (residue z) (residue_small z)).number

pub wrapped_same : (z : ℤ) → NumberFits z → wrapped z ≡ z
wrapped_same z fits = sym (wraps z) ∙ signed_residue z fits

-- Two integers of one residue differ by a multiple of 2 ^ 16, which is the difference of the multiples that each is past its residue.
pub record IsPast (z : ℤ) : Type 0 where
  pub up : ℕ
  pub down : ℕ
  pub is : z +ℤ pos (2 ^ 16 * down) ≡ pos (residue z + 2 ^ 16 * up)

pub past : (z : ℤ) → IsPast z
past (pos n) = record { up = n / 2 ^ 16; down = 0; is = omega (arith, ints) }
past (negsuc n) = record { up = 0; down = 1 + n / 2 ^ 16; is = omega (arith, ints) }

-- the residue is the one number below 2 ^ 16 that differs by a multiple of 2 ^ 16
pub residue_is : (z : ℤ) (n up down : ℕ) → n < 2 ^ 16 → z +ℤ pos (2 ^ 16 * down) ≡ pos (n + 2 ^ 16 * up) → residue z ≡ n
residue_is (pos m) n up down small is = omega (arith, ints)
residue_is (negsuc m) n up down small is = omega (arith, ints)

-- two integers that differ by a multiple of 2 ^ 16 have one residue
pub residue_shift : (y z : ℤ) (up down : ℕ) → y +ℤ pos (2 ^ 16 * down) ≡ z +ℤ pos (2 ^ 16 * up) → residue y ≡ residue z
residue_shift y z up down differ =
    let c = past z in
    residue_is y (residue z) (up + c.up) (down + c.down) (residue_small z) (omega (arith, ints, differ, c.is))

-- sums of integers have the residue of sums of others that have theirs
pub residue_sum : (x y z : ℤ) → residue x ≡ residue y → residue (x +ℤ z) ≡ residue (y +ℤ z)
residue_sum x y z same =
    let a = past x in
    let b = past y in
    residue_shift (x +ℤ z) (y +ℤ z) (a.up + b.down) (a.down + b.up) (omega (arith, ints, a.is, b.is, same))

-- what is wrapped goes by the residue
pub wrapped_alike : (y z : ℤ) → residue y ≡ residue z → wrapped y ≡ wrapped z
wrapped_alike y z same = sym (wraps y) ∙ ap signed same ∙ wraps z

-- Of sums that say, modulo 2 ^ 16, how many there are of something before and after one of the counts changes: that count is wrapped by as
-- much as there are more.
pub count_wraps : (a b x y : ℤ) (n m : ℕ) → b +ℤ x ≡ a +ℤ y → residue a ≡ n → residue b ≡ m → NumberFits y
    → y ≡ wrapped (x +ℤ (pos m -ℤ pos n))
count_wraps a b x y n m one first second fits =
    let p = past a in
    let q = past b in
    sym (wrapped_same y fits) ∙ wrapped_alike y (x +ℤ (pos m -ℤ pos n))
    (residue_shift y (x +ℤ (pos m -ℤ pos n)) (p.down + q.up) (p.up + q.down) (omega (arith, ints, one, first, second, p.is, q.is)))

-- so a count that is changed modulo 2 ^ 16 changes the residue of the sum by the change
pub residue_changed : (x z rest : ℤ) → residue (wrapped (x +ℤ z) +ℤ rest) ≡ residue ((x +ℤ rest) +ℤ z)
residue_changed x z rest =
    residue_sum (wrapped (x +ℤ z)) (x +ℤ z) rest (residue_wrapped (x +ℤ z)) ∙ ap residue (moved x z rest)
  where
    moved : (x z rest : ℤ) → (x +ℤ z) +ℤ rest ≡ (x +ℤ rest) +ℤ z
    moved x z rest = omega (arith, ints)

-- so a sum in which one count is changed modulo 2 ^ 16 has the residue of the sum with the change
pub residue_by : (a b x z : ℤ) → b +ℤ x ≡ a +ℤ wrapped (x +ℤ z) → residue b ≡ residue (a +ℤ z)
residue_by a b x z one =
    let p = past (wrapped (x +ℤ z)) in
    let q = past (x +ℤ z) in
    let same = residue_wrapped (x +ℤ z) in
    residue_shift b (a +ℤ z) (p.up + q.down) (p.down + q.up) (omega (arith, ints, one, p.is, q.is, same))

-- an integer less by 4 at most, and more by few, are wrapped apart
pub wrapped_apart : (x : ℤ) (n j : ℕ) → n < 4 → j ≤ 32848 → wrapped (x +ℤ negsuc n) ≡ wrapped (x +ℤ pos j) → ⊥
wrapped_apart x n j less few same =
    let one : residue (x +ℤ negsuc n) ≡ residue (x +ℤ pos j) =
    sym (residue_wrapped (x +ℤ negsuc n)) ∙ ap residue same ∙ residue_wrapped (x +ℤ pos j) in
    let p = past (x +ℤ negsuc n) in
    let q = past (x +ℤ pos j) in
    omega (arith, ints, one, p.is, q.is, less, few)

-- a sum of that many references has that residue
pub residue_refs : (z : ℤ) (n : ℕ) → n < 2 ^ 16 → z ≡ pos n → residue z ≡ n
residue_refs z n small is = ap residue is ∙ residue_pos n small
