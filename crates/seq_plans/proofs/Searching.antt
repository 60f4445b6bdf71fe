-- A search from a number on, in a list.
use Rattle.std.proofs.Common.{◌≡◌, ℕ, suc, ◌+◌, ◌<◌, Bool, true, false, cond, ◌∙◌, ap, List, ◌∷◌, Some, length, drop, slice_get, drop-cons}
use Rattle.std.proofs.Common.{add-one, find}
use Rattle.std.proofs.lemmas.Option.{slice_get_within, get_or_from_slice_get}

-- The item at an index is the first of what is dropped to.
item_first : {A : Type 0} (xs : List A) (i : ℕ) (x : A) → slice_get xs i ≡ Some x → drop i xs ≡ x ∷ drop (i + 1) xs
item_first {A = A} xs i x is =
    let below : i < length xs = slice_get_within xs i x is in
    rw (add-one, drop-cons xs i x) (ap (λ y. y ∷ drop (suc i) xs) (get_or_from_slice_get xs i x x is))

pub found_here : {A : Type 0} (p : A → Bool) (xs : List A) (i : ℕ) (x : A)
    → slice_get xs i ≡ Some x → p x ≡ true → find p (drop i xs) ≡ Some x
found_here {A = A} p xs i x is yes_is = ap (find p) (item_first xs i x is) ∙ ap (λ b. cond b (Some x) (find p (drop (i + 1) xs))) yes_is

pub found_later : {A : Type 0} (p : A → Bool) (xs : List A) (i : ℕ) (x : A)
    → slice_get xs i ≡ Some x → p x ≡ false → find p (drop i xs) ≡ find p (drop (i + 1) xs)
found_later {A = A} p xs i x is no_is = ap (find p) (item_first xs i x is) ∙ ap (λ b. cond b (Some x) (find p (drop (i + 1) xs))) no_is
