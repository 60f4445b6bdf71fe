-- Seats that go on are still all seats of their table.
use Rattle.std.proofs.Common.{◌≡◌, ℕ, zero, suc, List, [], ◌∷◌, ◌++◌, length, take, slice_get, Some, refl, sym, ap, ◌∙◌, subst}
use Rattle.turn_rule.specs.{TableValue, SeatValue, AreAllSeats}
use Rattle.{std.proofs.Math.Seq.take-append_seam, std.specs.List.AllZip, turn_tests.specs.Counting.GoesOn}

module _ {A B : Type 0} (R : A → B → Type 0) where
  length-all_zip : (xs : List A) (ys : List B) → AllZip R xs ys → length ys ≡ length xs
  length-all_zip [] [] h = refl
  length-all_zip [] (y ∷ ys) h = absurd h
  length-all_zip (x ∷ xs) [] h = absurd h
  length-all_zip (x ∷ xs) (y ∷ ys) h = ap suc (length-all_zip xs ys h.1)

  at_all_zip : (xs : List A) (ys : List B) (k : ℕ) (y : B) → AllZip R xs ys → slice_get ys k ≡ Some y
      → (x : A) × (slice_get xs k ≡ Some x) × R x y
  at_all_zip [] [] k y h e = absurd (cc)
  at_all_zip [] (z ∷ ys) k y h e = absurd h
  at_all_zip (x ∷ xs) [] k y h e = absurd h
  at_all_zip (x ∷ xs) (z ∷ ys) zero y h e = let is : z ≡ y = cc in (x, refl, subst (R x) is h.0)
  at_all_zip (x ∷ xs) (z ∷ ys) (suc k) y h e = at_all_zip xs ys k y h.1 e

pub all_go_on : {P C : Type 0} (table : TableValue P) (xs ys zs : List (SeatValue P C)) (n : ℕ) → AreAllSeats table xs
    → AllZip (λ x y. GoesOn x y) xs ys → n ≡ length xs → AreAllSeats table (take n (ys ++ zs))
all_go_on {P} {C} table xs ys zs n all on count =
    let R : SeatValue P C → SeatValue P C → Type 0 = λ x y. GoesOn x y in
    let same = length-all_zip R xs ys on in
    subst (λ (l : List (SeatValue P C)). AreAllSeats table l)
    (sym (ap (λ (m : ℕ). take m (ys ++ zs)) (count ∙ sym same) ∙ take-append_seam ys zs)) record {
      count = same ∙ all.count;
      table = λ k y e. let was = at_all_zip R xs ys k y on e in was.2.table ∙ all.table k was.0 was.1;
      core = λ k y e. let was = at_all_zip R xs ys k y on e in was.2.core ∙ all.core k was.0 was.1;
    }
