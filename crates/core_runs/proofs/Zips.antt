use Rattle.std.proofs.Common.{◌≡◌, List, [], ◌∷◌, ◌++◌, sym, subst}
use Rattle.std.specs.List.{AllZip}

module _ {A B : Type 0} (R : A → B → Type 0) where
  all_zip_append : (xs : List A) (ys : List B) (xs' : List A) (ys' : List B) → AllZip R xs ys → AllZip R xs' ys'
      → AllZip R (xs ++ xs') (ys ++ ys')
  all_zip_append [] [] xs' ys' h k = k
  all_zip_append [] (y ∷ ys) xs' ys' h k = absurd h
  all_zip_append (x ∷ xs) [] xs' ys' h k = absurd h
  all_zip_append (x ∷ xs) (y ∷ ys) xs' ys' h k = (h.0, all_zip_append xs ys xs' ys' h.1 k)

  pub all_zip_parts : (l : List A) (m : List B) (xs : List A) (ys : List B) (xs' : List A) (ys' : List B) → l ≡ xs ++ xs' → m ≡ ys ++ ys'
      → AllZip R xs ys → AllZip R xs' ys' → AllZip R l m
  all_zip_parts l m xs ys xs' ys' e f h k = subst (λ (z : List A). AllZip R z m) (sym e) (subst (λ (z : List B). AllZip R (xs ++ xs') z)
      (sym f) (all_zip_append xs ys xs' ys' h k))
