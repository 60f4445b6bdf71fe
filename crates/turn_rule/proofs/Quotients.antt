-- A division by a multiplication: the upper half of what the reciprocal makes of a number raised by 1 is the quotient.
use Rattle.std.proofs.Common.{◌≡◌, ℕ, ◌+◌, ◌*◌, ◌/◌, ◌<◌, ◌≤◌, arith, div-mul-le_self, le-div_iff_mul-le, div-lt_iff_lt-mul}
use Rattle.std.proofs.Common.{mul-le-mul_left, mul-le-mul_right}
use Rattle.{std.proofs.Math.Nat.lt-div-mul-add, turn_rule.specs.Positions.reciprocal_of}

module _ (n row : ℕ) (small : n < 4294967296) (some : 0 < row) (low : row < 4294967296) where
  abbrev q : ℕ
  q = n / row

  abbrev k : ℕ
  k = 18446744073709551615 / row

  -- the reciprocal times the divisor is at most 2^64 - 1, and lacks less than the divisor of it
  below : k * row ≤ 18446744073709551615
  below = div-mul-le_self 18446744073709551615 row

  near : 18446744073709551616 ≤ k * row + row
  near = let up : 18446744073709551615 < k * row + row = lt-div-mul-add some in omega (arith, up)

  large : 4294967296 ≤ k
  large = (le-div_iff_mul-le some).1 (omega arith)

  -- so the product is not below so many times 2^64 as the quotient says, and below once more
  at_least : q * 18446744073709551616 ≤ (n + 1) * k
  at_least =
      let whole : q * row ≤ n = div-mul-le_self n row in
      let times : q * 18446744073709551616 ≤ q * (k * row + row) = mul-le-mul_left q near in
      let parts : q * (k * row + row) ≡ q * (k * row) + q * row = grind arith in
      let raised : (q * row + 1) * k ≤ (n + 1) * k = mul-le-mul_right k (omega (arith, whole)) in
      let other : (q * row + 1) * k ≡ q * (k * row) + k = grind arith in
      omega (arith, large, whole, times, parts, raised, other)

  less : (n + 1) * k < (q + 1) * 18446744073709551616
  less =
      let up : n < q * row + row = lt-div-mul-add some in
      let same : (q + 1) * row ≡ q * row + row = grind arith in
      let raised : (n + 1) * k ≤ ((q + 1) * row) * k = mul-le-mul_right k (omega (arith, up, same)) in
      let turned : ((q + 1) * row) * k ≡ (q + 1) * (k * row) = grind arith in
      let times : (q + 1) * (k * row) ≤ (q + 1) * 18446744073709551615 = mul-le-mul_left (q + 1) below in
      omega (arith, raised, turned, times)

  not_less : q ≤ (n + 1) * k / 18446744073709551616
  not_less = (le-div_iff_mul-le (omega arith)).1 at_least

  not_more : (n + 1) * k / 18446744073709551616 < q + 1
  not_more = (div-lt_iff_lt-mul (omega arith)).1 less

  -- the upper half of the product is the quotient
  pub quotient_by : (n + 1) * reciprocal_of row / 18446744073709551616 ≡ n / row
  quotient_by = omega (arith, not_less, not_more)
