-- One number for each mark.
use Rattle.std.proofs.Common.{◌≡◌, ◌≢◌, ℕ, ◌+◌, ◌-◌, ◌<◌, ◌==◌, Option, Some, None, refl, sym, arith, nat_lt}
use Rattle.std.proofs.lemmas.Bool.{ne_eqb, lt-ltb, ltb-true, eqb-true, eqb-false}
use Rattle.spk_nums.proofs.Choices.{kept, chosen}
use Rattle.spk_nums.specs.Marks.{MarkFits, number_of_mark, mark_of_number}

-- a mark's number, and that the mark is found again from it
pub record IsMarkNumber (m : Option ℕ) : Type 0 where
  pub below : number_of_mark m < 9
  pub back : mark_of_number (number_of_mark m) ≡ Some m

pub mark_numbered : (m : Option ℕ) → MarkFits m → IsMarkNumber m
mark_numbered None h = record { below = omega arith; back = refl }
mark_numbered (Some c) h = record { below = omega arith; back = back_some } where
  some : c + 1 ≢ 0
  some = omega arith

  less : c + 1 - 1 ≡ c
  less = omega arith

  small : c + 1 < 9
  small = omega arith

  back_some : mark_of_number (c + 1) ≡ Some (Some c)
  back_some = rw (ne_eqb (c + 1) 0 some, lt-ltb (c + 1) 9 small, less)

-- what a mark was read from
pub record MarkFrom (n : ℕ) (m : Option ℕ) : Type 0 where
  pub in_range : MarkFits m
  pub number : number_of_mark m ≡ n

pub mark_from : (n : ℕ) (m : Option ℕ) → mark_of_number n ≡ Some m → MarkFrom n m
mark_from n None h =
    chosen (n == 0) _ _ (Some None) h
    (λ e _. record { in_range = tt; number = sym (eqb-true n 0 e) })
    (λ _ h1. let p = kept (nat_lt n 9) (Some (n - 1)) None h1 in let e : Some (n - 1) ≡ None = p.1 in absurd (cc))
mark_from n (Some c) h =
    chosen (n == 0) _ _ (Some (Some c)) h
    (λ _ h1. absurd (cc))
    (λ e h1.
    let p = kept (nat_lt n 9) (Some (n - 1)) (Some c) h1 in
    let same : n - 1 ≡ c = cc (p.1) in
    let some : n ≡ 0 → ⊥ = eqb-false n 0 e in
    let small : n < 9 = ltb-true n 9 p.0 in
    record { in_range = omega arith; number = omega arith })
