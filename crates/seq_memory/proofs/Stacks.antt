-- The stack of a thread with at most one component.
use Rattle.std.proofs.Common.{◌≡◌, ℕ, ◌≤◌, refl, sym, ap, List, [], ◌∷◌, None, Some, length, slice_get, arith}

-- A stack of at most one frame, by its newest.
pub one_item : (xs : List ℕ) (x : ℕ) → length xs ≤ 1 → Some x ≡ slice_get xs 0 → xs ≡ x ∷ []
one_item [] x few is = cc
one_item (y ∷ []) x few is = let e : x ≡ y = cc in ap (λ z. z ∷ []) (sym e)
one_item (y ∷ z ∷ zs) x few is = absurd (omega arith)

pub no_item : (xs : List ℕ) → None ≡ slice_get xs 0 → xs ≡ []
no_item [] is = refl
no_item (y ∷ ys) is = cc
