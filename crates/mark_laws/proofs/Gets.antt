-- The word at a place of a list, and those from there on.
use Rattle.std.proofs.Common.{◌≡◌, ℕ, zero, suc, ◌+◌, ◌<◌, ◌≤◌, Bool, true, false, List, [], ◌∷◌, length, drop, Some, None, refl, sym, ◌∙◌}
use Rattle.std.proofs.Common.{ap, arith, if◌then◌else◌, slice_get}

pub cond_true : {X : Type 0} (b : Bool) (x y : X) → b ≡ true → (if b then x else y) ≡ x
cond_true b x y e = rw e refl

pub cond_false : {X : Type 0} (b : Bool) (x y : X) → b ≡ false → (if b then x else y) ≡ y
cond_false b x y e = rw e refl

pub get_drop : (xs : List (List ℕ)) (p : ℕ) (w : List ℕ) → slice_get xs p ≡ Some w → drop p xs ≡ w ∷ drop (p + 1) xs
get_drop [] p w e = cc
get_drop (x ∷ xs) zero w e = let same : x ≡ w = cc in ap (λ (v : List ℕ). v ∷ xs) same
get_drop (x ∷ xs) (suc p) w e =
    let next : p + 1 + 1 ≡ suc (p + 1) = omega arith in
    let here : suc p + 1 ≡ suc (p + 1) = omega arith in
    get_drop xs p w e ∙ ap (λ (k : ℕ). w ∷ drop k (x ∷ xs)) (sym here)

pub get_end : (xs : List (List ℕ)) (p : ℕ) → slice_get xs p ≡ None → drop p xs ≡ []
get_end [] zero e = refl
get_end [] (suc p) e = refl
get_end (x ∷ xs) zero e = cc
get_end (x ∷ xs) (suc p) e = get_end xs p e

pub get_low : (xs : List (List ℕ)) (p : ℕ) (w : List ℕ) → slice_get xs p ≡ Some w → p < length xs
get_low [] p w e = cc
get_low (x ∷ xs) zero w e = omega arith
get_low (x ∷ xs) (suc p) w e = let below : p < length xs = get_low xs p w e in omega arith

pub get_none : (xs : List (List ℕ)) (p : ℕ) → length xs ≤ p → slice_get xs p ≡ None
get_none [] p past = refl
get_none (x ∷ xs) zero past = absurd (omega (arith, past))
get_none (x ∷ xs) (suc p) past = get_none xs p (omega (arith, past))

pub get_some : (xs : List (List ℕ)) (p : ℕ) → p < length xs → (w : List ℕ) × (slice_get xs p ≡ Some w)
get_some [] p low = absurd (omega (arith, low))
get_some (x ∷ xs) zero low = (x, refl)
get_some (x ∷ xs) (suc p) low = get_some xs p (omega (arith, low))
