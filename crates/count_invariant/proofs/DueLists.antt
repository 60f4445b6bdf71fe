-- Lists of counts that are due, and of those that are acquired of them.
use Rattle.step_ways.proofs.{◌≡◌, ◌≢◌, ℕ, suc, ◌+◌, ◌++◌, map, slice_get, length, true, false, if◌then◌else◌, List, [], ◌∷◌, Some, None}
use Rattle.step_ways.proofs.{refl, sym, ◌∙◌, ap, All, CountAt, same_word-other, Acquired, Due, count_of, holds_counts, AreDuesApart, due_of}
use Rattle.std.proofs.lemmas.List.Elements.{All-head, All-tail}

-- What stands in a list after those before it.
pub get_after : {A : Type 0} (xs : List A) (x : A) (ys : List A) → slice_get (xs ++ x ∷ ys) (length xs) ≡ Some x
get_after [] x ys = refl
get_after (z ∷ zs) x ys = get_after zs x ys

pub get_none : {A : Type 0} (xs : List A) → slice_get (xs ++ []) (length xs) ≡ None
get_none [] = refl
get_none (z ∷ zs) = get_none zs

pub after_none : {A : Type 0} (xs : List A) → xs ++ [] ≡ xs
after_none [] = refl
after_none (z ∷ zs) = ap (λ ys. z ∷ ys) (after_none zs)

pub after_one : {A : Type 0} (xs : List A) (x : A) (ys : List A) → (xs ++ x ∷ []) ++ ys ≡ xs ++ x ∷ ys
after_one [] x ys = refl
after_one (z ∷ zs) x ys = ap (λ qs. z ∷ qs) (after_one zs x ys)

pub map_more : (xs : List Acquired) (x : Acquired) → map due_of (xs ++ x ∷ []) ≡ map due_of xs ++ due_of x ∷ []
map_more [] x = refl
map_more (z ∷ zs) x = ap (λ ys. due_of z ∷ ys) (map_more zs x)

pub map_length : (xs : List Acquired) → length (map due_of xs) ≡ length xs
map_length [] = refl
map_length (z ∷ zs) = ap (λ (n : ℕ). suc n) (map_length zs)

-- The frame of a due is not that of one before it.
pub in_middle : (f : ℕ) (xs : List Due) (d : Due) (ds : List Due) → All (λ x. f ≢ x.frame) (xs ++ d ∷ ds) → f ≢ d.frame
in_middle f [] d ds all = All-head (λ x. f ≢ x.frame) d ds all
in_middle f (x ∷ xs) d ds all = in_middle f xs d ds (All-tail (λ y. f ≢ y.frame) x (xs ++ d ∷ ds) all)

pub not_acquired : (xs : List Acquired) (d : Due) (ds : List Due) → AreDuesApart (map due_of xs ++ d ∷ ds) → (n : ℕ)
    → (holds_counts None xs).marks (CountAt d.frame n) ≡ false
not_acquired [] d ds apart n = refl
not_acquired (x ∷ xs) d ds apart n =
    ap (λ b. if b then true else (holds_counts None xs).marks (CountAt d.frame n))
    (same_word-other (CountAt d.frame n) (count_of x)
    (λ h. in_middle x.pin.frame (map due_of xs) d ds apart.0 (sym (same_frame _ _ _ _ h))))
    ∙ not_acquired xs d ds apart.1 n
  where
    same_frame : (f d g b : ℕ) → CountAt f d ≡ CountAt g b → f ≡ g
    same_frame f d g b h = cc
