-- Sums over the numbers below a bound, term by term.
use Rattle.kernel_invariant.specs.kernel_rules.proofs.{◌≡◌, ℕ, zero, suc, ◌+◌, ◌*◌, refl, ap, rules, arith, sum_below}

pub sum_none : (f : ℕ → ℕ) → 0 ≡ sum_below f 0
unfolding sum_below
sum_none f = refl

pub sum_more : (f : ℕ → ℕ) (n : ℕ) → sum_below f (n + 1) ≡ sum_below f n + f n
unfolding sum_below
sum_more f n = search rules

-- One term more.
pub counted : (f : ℕ → ℕ) (n k count term : ℕ) → count ≡ sum_below f n → k ≡ n → term ≡ f k → count + term ≡ sum_below f (n + 1)
counted f n k count term so_far is this = let more = sum_more f n in let same : f k ≡ f n = ap f is in omega arith

-- No term, on a base.
pub none_more : (f : ℕ → ℕ) (base : ℕ) → base ≡ base + sum_below f 0
none_more f base = let none = sum_none f in omega arith

-- One term more, on a base.
pub counted_more : (f : ℕ → ℕ) (n base count new term : ℕ) → count ≡ base + sum_below f n → new ≡ count + term → term ≡ f n
    → new ≡ base + sum_below f (n + 1)
counted_more f n base count new term so_far is this = let more = sum_more f n in omega arith

-- A sum in two parts.
pub sum_apart : (f : ℕ → ℕ) (m n : ℕ) → sum_below f (m + n) ≡ sum_below f m + sum_below (λ i. f (m + i)) n
unfolding sum_below
sum_apart f m zero =
    let z : m + 0 ≡ m = omega arith in
    let e : sum_below f (m + 0) ≡ sum_below f m = ap (sum_below f) z in
    omega arith
sum_apart f m (suc n) =
    let z : m + suc n ≡ suc (m + n) = omega arith in
    let e : sum_below f (m + suc n) ≡ sum_below f (suc (m + n)) = ap (sum_below f) z in
    let a = sum_apart f m n in
    omega arith

-- A sum over the rows of a table.
pub sum_rows : (f : ℕ → ℕ) (n : ℕ) → sum_below f (64 * n) ≡ sum_below (λ g. sum_below (λ i. f (64 * g + i)) 64) n
unfolding sum_below
sum_rows f zero = let z : 64 * 0 ≡ 0 = omega arith in ap (sum_below f) z
sum_rows f (suc n) =
    let z : 64 * suc n ≡ 64 * n + 64 = omega arith in
    let e : sum_below f (64 * suc n) ≡ sum_below f (64 * n + 64) = ap (sum_below f) z in
    let a = sum_apart f (64 * n) 64 in
    let b = sum_rows f n in
    omega arith
