-- Sums over cores.
use Rattle.std.proofs.Common.{◌≡◌, ◌≢◌, ℕ, zero, suc, ◌+◌, ◌*◌, ◌<◌, ◌≤◌, refl, arith}

-- the first n values, added up
abbrev pub total : (ℕ → ℕ) → ℕ → ℕ
total f zero = 0
total f (suc n) = f 0 + total (λ c. f (suc c)) n

total_same : (n : ℕ) (f g : ℕ → ℕ) → ((c : ℕ) → g c ≡ f c) → total g n ≡ total f n
total_same zero f g h = refl
total_same (suc n) f g h = let first = h 0 in let rest = total_same n (λ c. f (suc c)) (λ c. g (suc c)) (λ c. h (suc c)) in omega arith

-- where one of them changes
pub total_changed : (n k : ℕ) (f g : ℕ → ℕ) → k < n → ((c : ℕ) → c ≢ k → g c ≡ f c) → total g n + f k ≡ total f n + g k
total_changed zero k f g lt h = absurd (omega arith)
total_changed (suc n) zero f g lt h =
    let rest = total_same n (λ c. f (suc c)) (λ c. g (suc c)) (λ c. h (suc c) (λ e. omega arith)) in omega arith
total_changed (suc n) (suc k) f g lt h =
    let first = h 0 (λ e. omega arith) in
    let rest : total (λ c. g (suc c)) n + f (suc k) ≡ total (λ c. f (suc c)) n + g (suc k) =
    total_changed n k (λ c. f (suc c)) (λ c. g (suc c)) (omega arith) (λ c ne. h (suc c) (λ e. ne (omega arith))) in
    omega arith

-- eight cores with so many each
pub total_at_most : (n most : ℕ) (f : ℕ → ℕ) → ((c : ℕ) → f c ≤ most) → total f n ≤ n * most
total_at_most zero most f h = omega arith
total_at_most (suc n) most f h = let first = h 0 in let rest = total_at_most n most (λ c. f (suc c)) (λ c. h (suc c)) in grind arith
