-- What a list has at a position, after a write and after a push.
use Rattle.kernel_invariant.specs.kernel_rules.proofs.{◌≡◌, ◌≢◌, ℕ, zero, suc, ◌+◌, ◌<◌, refl, ◌∙◌, ap, arith, List, [], ◌∷◌, ◌++◌, length}
use Rattle.kernel_invariant.specs.kernel_rules.proofs.{set, get_or, Some, IsSome, slice_get, false≢true}
use Rattle.std.proofs.lemmas.Option.{slice_get_read}

-- A position that has an item lies within the list.
pub stands_within : {X : Type 0} (xs : List X) (i : ℕ) → IsSome (slice_get xs i) → i < length xs
stands_within [] i h = absurd (false≢true h)
stands_within (x ∷ xs) zero h = omega arith
stands_within (x ∷ xs) (suc i) h = let a = stands_within xs i h in omega arith

-- An item that was read stands there.
pub read_here : {X : Type 0} (xs : List X) (i k : ℕ) (x : X) → k ≡ i → i < length xs → x ≡ get_or xs k x → slice_get xs i ≡ Some x
read_here xs i k x same below is = slice_get_read xs (length xs) i x refl below (is ∙ ap (λ n. get_or xs n x) same)

pub set_here : {X : Type 0} (xs : List X) (i : ℕ) (y : X) → i < length xs → slice_get (set xs i y) i ≡ Some y
set_here [] i y below = absurd (omega arith)
set_here (x ∷ xs) zero y below = refl
set_here (x ∷ xs) (suc i) y below = set_here xs i y (omega arith)

pub set_apart : {X : Type 0} (xs : List X) (i j : ℕ) (y : X) → j ≢ i → slice_get (set xs i y) j ≡ slice_get xs j
set_apart [] i j y ne = refl
set_apart (x ∷ xs) zero zero y ne = absurd (ne refl)
set_apart (x ∷ xs) zero (suc j) y ne = refl
set_apart (x ∷ xs) (suc i) zero y ne = refl
set_apart (x ∷ xs) (suc i) (suc j) y ne = set_apart xs i j y (λ e. ne (omega arith))

pub push_here : {X : Type 0} (xs : List X) (y : X) (n : ℕ) → length xs ≡ n → slice_get (xs ++ y ∷ []) n ≡ Some y
push_here [] y zero is = refl
push_here [] y (suc n) is = absurd (omega arith)
push_here (x ∷ xs) y zero is = absurd (omega arith)
push_here (x ∷ xs) y (suc n) is = push_here xs y n (omega arith)

pub push_apart : {X : Type 0} (xs : List X) (y : X) (n j : ℕ) → length xs ≡ n → j ≢ n → slice_get (xs ++ y ∷ []) j ≡ slice_get xs j
push_apart [] y n zero is ne = absurd (ne (omega arith))
push_apart [] y n (suc j) is ne = refl
push_apart (x ∷ xs) y n zero is ne = refl
push_apart (x ∷ xs) y zero (suc j) is ne = absurd (omega arith)
push_apart (x ∷ xs) y (suc n) (suc j) is ne = push_apart xs y n j (omega arith) (λ e. ne (omega arith))

pub push_longer : {X : Type 0} (xs : List X) (y : X) (n : ℕ) → length xs ≡ n → length (xs ++ y ∷ []) ≡ n + 1
push_longer [] y n is = omega arith
push_longer (x ∷ xs) y zero is = absurd (omega arith)
push_longer (x ∷ xs) y (suc n) is = let a = push_longer xs y n (omega arith) in omega arith
