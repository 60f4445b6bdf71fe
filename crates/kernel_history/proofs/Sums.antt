-- Sums over the numbers below a bound, in parts; and how often a run of numbers has a number.
use Rattle.kernel_rules.proofs.{◌≡◌, ◌≢◌, inl, inr, ℕ, zero, suc, ◌+◌, ◌*◌, ◌<◌, ◌≤◌, arith, refl, sym, ap, ◌∙◌, ◌==◌, cond, List, [], ◌∷◌}
use Rattle.kernel_rules.proofs.{◌++◌, fold, eq-eqb, ne_eqb, sum_below, times}
use Rattle.std.proofs.lemmas.Bool.{cases_eq}

pub sum_none : (f : ℕ → ℕ) → sum_below f 0 ≡ 0
unfolding sum_below
sum_none f = refl

pub sum_more : (f : ℕ → ℕ) (n : ℕ) → sum_below f (n + 1) ≡ sum_below f n + f n
unfolding sum_below
sum_more f n = let e : n + 1 ≡ suc n = omega arith in rw e

pub sum_same : (f g : ℕ → ℕ) (n : ℕ) → ((i : ℕ) → i < n → f i ≡ g i) → sum_below f n ≡ sum_below g n
unfolding sum_below
sum_same f g zero same = refl
sum_same f g (suc n) same = let a = sum_same f g n (λ i h. same i (omega arith)) in let b = same n (omega arith) in omega arith

pub sum_zero : (f : ℕ → ℕ) (n : ℕ) → ((i : ℕ) → i < n → f i ≡ 0) → sum_below f n ≡ 0
unfolding sum_below
sum_zero f zero none = refl
sum_zero f (suc n) none = let a = sum_zero f n (λ i h. none i (omega arith)) in let b = none n (omega arith) in omega arith

pub sum_const : (f : ℕ → ℕ) (n k : ℕ) → ((i : ℕ) → i < n → f i ≡ k) → sum_below f n ≡ k * n
unfolding sum_below
sum_const f zero k is = omega arith
sum_const f (suc n) k is = let a = sum_const f n k (λ i h. is i (omega arith)) in let b = is n (omega arith) in omega arith

pub sum_both : (f g : ℕ → ℕ) (n : ℕ) → sum_below (λ i. f i + g i) n ≡ sum_below f n + sum_below g n
unfolding sum_below
sum_both f g zero = refl
sum_both f g (suc n) = let a = sum_both f g n in omega arith

split : (f : ℕ → ℕ) (a b : ℕ) → sum_below f (a + b) ≡ sum_below f a + sum_below (λ i. f (a + i)) b
unfolding sum_below
split f a zero = let e : a + 0 ≡ a = omega arith in let p : sum_below f (a + 0) ≡ sum_below f a = ap (sum_below f) e in omega arith
split f a (suc b) =
    let e : a + suc b ≡ suc (a + b) = omega arith in
    let p : sum_below f (a + suc b) ≡ sum_below f (suc (a + b)) = ap (sum_below f) e in
    let q = split f a b in
    omega arith

-- A sum in two parts.
pub sum_split : (f : ℕ → ℕ) (n a b : ℕ) → n ≡ a + b → sum_below f n ≡ sum_below f a + sum_below (λ i. f (a + i)) b
sum_split f n a b is = ap (sum_below f) is ∙ split f a b

count_from : (f : ℕ) (fs : List ℕ) (a : ℕ) → fold (λ a x. a + cond (x == f) 1 0) a fs ≡ a + times f fs
count_from f [] a = omega arith
count_from f (g ∷ fs) a =
    let p = count_from f fs (a + cond (g == f) 1 0) in
    let q = count_from f fs (0 + cond (g == f) 1 0) in
    omega (arith, p, q)

pub times_cons : (f g : ℕ) (fs : List ℕ) → times f (g ∷ fs) ≡ cond (g == f) 1 0 + times f fs
times_cons f g fs = let p = count_from f fs (0 + cond (g == f) 1 0) in omega (arith, p)

pub times_append : (f : ℕ) (xs ys : List ℕ) → times f (xs ++ ys) ≡ times f xs + times f ys
times_append f [] ys = omega arith
times_append f (x ∷ xs) ys =
    let p = times_cons f x (xs ++ ys) in
    let q = times_cons f x xs in
    let r = times_append f xs ys in
    omega (arith, p, q, r)

-- One number is another, or is not.
pub one_same : (f g : ℕ) → g ≡ f → times f (g ∷ []) ≡ 1
one_same f g is = let one : ℕ = 1 in let p : cond (g == f) 1 0 ≡ one = ap (λ b. cond b 1 0) (eq-eqb g f is) in
    let q = times_cons f g [] in omega arith

pub one_other : (f g : ℕ) → g ≢ f → times f (g ∷ []) ≡ 0
one_other f g other = let none : ℕ = 0 in
    let p : cond (g == f) 1 0 ≡ none = ap (λ b. cond b 1 0) (ne_eqb g f other) in let q = times_cons f g [] in omega arith

-- How often the n numbers from k on are f.
abbrev pub hits : ℕ → ℕ → ℕ → ℕ
hits f k n = sum_below (λ i. times f ((k + i) ∷ [])) n

pub hits_out : (f k n : ℕ) → ((i : ℕ) → i < n → k + i ≢ f) → hits f k n ≡ 0
hits_out f k n out = sum_zero (λ i. times f ((k + i) ∷ [])) n (λ i h. one_other f (k + i) (out i h))

pub hits_in : (f k n : ℕ) → k ≤ f → f < k + n → hits f k n ≡ 1
unfolding sum_below
hits_in f k zero low high = absurd (omega arith)
hits_in f k (suc n) low high = elim (cases_eq f (k + n)) [
  | inl last ↦
      let a : hits f k n ≡ 0 = hits_out f k n (λ i h e. omega (arith, h, e, last)) in
      let b : times f ((k + n) ∷ []) ≡ 1 = one_same f (k + n) (sym last) in
      omega (arith, a, b)
  | inr before ↦
      let a : hits f k n ≡ 1 = hits_in f k n low (omega arith) in
      let b : times f ((k + n) ∷ []) ≡ 0 = one_other f (k + n) (λ e. before (sym e)) in
      omega (arith, a, b)
]
