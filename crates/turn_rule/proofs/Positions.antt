-- Words of distinct places lie at distinct positions.
use Rattle.std.proofs.Common.{◌≡◌, ◌≢◌, ℕ, ◌+◌, ◌-◌, ◌*◌, ◌/◌, ◌<◌, ◌≤◌, ap, ◌∙◌, arith, lt_of_not-le}
use Rattle.std.proofs.Math.Nat.{div-eq_of_lt, div-eq-sub-div, div-lt_iff_lt-mul, lt-div-mul-add}
use Rattle.{turn_rule.specs.SpreadValue, turn_rule.specs.position, turn_rule.specs.Positions.rows_to}
use native.Mathlib.Decide.{dec_le}

-- no row begins before the first place
rows_before : (s : SpreadValue) → 0 < s.row → (at : ℕ) → at < s.first → rows_to s at ≡ 0
unfolding rows_to
rows_before s some at low = div-eq_of_lt (omega arith)

-- from there on one begins each `row` places
rows_from : (s : SpreadValue) → 0 < s.row → (at : ℕ) → s.first ≤ at → rows_to s at ≡ (at - s.first) / s.row + 1
unfolding rows_to
rows_from s some at high =
    let le : s.row ≤ at + s.row - s.first = omega arith in
    let less : at + s.row - s.first - s.row ≡ at - s.first = omega arith in
    div-eq-sub-div some le ∙ ap (λ (n : ℕ). n / s.row + 1) less

-- not more rows begin before an earlier place
rows_grow : (s : SpreadValue) → 0 < s.row → (a b : ℕ) → a ≤ b → rows_to s a ≤ rows_to s b
unfolding rows_to
rows_grow s some a b le = quotients (a + s.row - s.first) (b + s.row - s.first) s.row some (omega arith)
  where
    quotients : (x y n : ℕ) → 0 < n → x ≤ y → x / n ≤ y / n
    quotients x y n pos le =
        let up : y < y / n * n + n = lt-div-mul-add pos in
        let same : (y / n + 1) * n ≡ y / n * n + n = grind arith in
        let below : x < (y / n + 1) * n = omega (arith, up, same) in
        let lt : x / n < y / n + 1 = (div-lt_iff_lt-mul pos).1 below in omega (arith, lt)

pub position_before : (s : SpreadValue) → 0 < s.row → (at : ℕ) → at < s.first → position s at ≡ at
unfolding position
position_before s some at low = let none = rows_before s some at low in omega arith

pub position_from : (s : SpreadValue) → 0 < s.row → (at : ℕ) → s.first ≤ at → position s at ≡ at + 16 * ((at - s.first) / s.row + 1)
unfolding position
position_from s some at high = ap (λ (n : ℕ). at + 16 * n) (rows_from s some at high)

-- later places lie further on
pub position_grows : (s : SpreadValue) → 0 < s.row → (a b : ℕ) → a < b → position s a < position s b
unfolding position
position_grows s some a b lt = let grow = rows_grow s some a b (omega arith) in omega arith

-- so distinct places lie apart
pub position_apart : (s : SpreadValue) → 0 < s.row → (a b : ℕ) → a ≢ b → position s a ≢ position s b
position_apart s some a b ne same = ne (by_order (dec_le a b))
  where
    by_order : Dec (a ≤ b) → a ≡ b
    by_order (yes le) = let lt = position_grows s some a b (omega arith) in absurd (omega arith)
    by_order (no gt) = let lt = position_grows s some b a (lt_of_not-le gt) in absurd (omega arith)

-- and a place among so many lies in their memory
pub position_within : (s : SpreadValue) → 0 < s.row → (at n m : ℕ) → at < n → m ≡ position s n → position s at < m
position_within s some at n m lt is = let grow = position_grows s some at n lt in omega arith
