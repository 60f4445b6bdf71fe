-- Sums over numbers below a bound, where one term changes; and how often a list names a frame.
use Rattle.kernel_rules.proofs.{◌≡◌, ◌≢◌, inl, inr, ℕ, zero, suc, ◌+◌, ◌<◌, ◌≤◌, arith, refl, sym, ap, ◌==◌, cond, List, [], ◌∷◌, ◌++◌}
use Rattle.kernel_rules.proofs.{fold, eq-eqb, sum_below, times}
use Rattle.std.proofs.lemmas.Bool.{cases_eq}

pub sum_same : (f f' : ℕ → ℕ) (n : ℕ) → ((i : ℕ) → i < n → f' i ≡ f i) → sum_below f' n ≡ sum_below f n
unfolding sum_below
sum_same f f' zero same = refl
sum_same f f' (suc n) same = let a = sum_same f f' n (λ i h. same i (omega arith)) in let b = same n (omega arith) in omega arith

pub sum_one : (f f' : ℕ → ℕ) (n i : ℕ) → i < n → ((j : ℕ) → j ≢ i → f' j ≡ f j) → sum_below f' n + f i ≡ sum_below f n + f' i
unfolding sum_below
sum_one f f' zero i below same = absurd (omega arith)
sum_one f f' (suc n) i below same = elim (cases_eq i n) [
  | inl last ↦
      let a = sum_same f f' n (λ j h. same j (omega arith)) in
      let b : f n ≡ f i = ap f (sym last) in
      let b' : f' n ≡ f' i = ap f' (sym last) in
      omega arith
  | inr other ↦
      let a = sum_one f f' n i (omega arith) same in
      let b = same n (λ h. other (sym h)) in
      omega arith
]

-- A term is at most the sum.
pub sum_term : (f : ℕ → ℕ) (n i : ℕ) → i < n → f i ≤ sum_below f n
unfolding sum_below
sum_term f zero i below = absurd (omega arith)
sum_term f (suc n) i below = elim (cases_eq i n) [
  | inl last ↦ let b : f i ≡ f n = ap f last in omega arith
  | inr other ↦ let a = sum_term f n i (omega arith) in omega arith
]

count_from : (f : ℕ) (fs : List ℕ) (a : ℕ) → fold (λ a x. a + cond (x == f) 1 0) a fs ≡ a + times f fs
count_from f [] a = omega arith
count_from f (g ∷ fs) a =
    let p = count_from f fs (a + cond (g == f) 1 0) in
    let q = count_from f fs (0 + cond (g == f) 1 0) in
    omega (arith, p, q)

pub times_cons : (f g : ℕ) (fs : List ℕ) → times f (g ∷ fs) ≡ cond (g == f) 1 0 + times f fs
times_cons f g fs = let p = count_from f fs (0 + cond (g == f) 1 0) in omega (arith, p)

pub times_append : (f : ℕ) (xs ys : List ℕ) → times f (xs ++ ys) ≡ times f xs + times f ys
times_append f [] ys = omega arith
times_append f (x ∷ xs) ys =
    let p = times_cons f x (xs ++ ys) in
    let q = times_cons f x xs in
    let r = times_append f xs ys in
    omega (arith, p, q, r)

-- The first of a list is named at least once.
pub times_first : (f : ℕ) (fs : List ℕ) → 1 ≤ times f (f ∷ fs)
times_first f fs =
    let p = times_cons f f fs in
    let one : ℕ = 1 in
    let q : cond (f == f) 1 0 ≡ one = ap (λ t. cond t 1 0) (eq-eqb f f refl) in
    omega (arith, p, q)
