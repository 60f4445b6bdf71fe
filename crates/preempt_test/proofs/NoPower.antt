-- Merging gives no list the power to preempt what neither part could.
use Rattle.std.proofs.Common.{◌≡◌, ℕ, ◌≤◌, ◌==◌, Bool, true, false, if◌then◌else◌, nat_lt, max, List, [], ◌∷◌, Option, Some, None, refl}
use Rattle.std.proofs.Common.{subst, arith, eqb-true, ltb-true, lt-ltb}
use Rattle.spk_nums.specs.Merging.{put_pair, merged, number_of, is_smaller, is_better}
use Rattle.{std.proofs.lemmas.Bool.and_parts, std.proofs.lemmas.Bool.and_from, preempt_test.specs.Power.MergingGivesNoPower}

-- a number below the larger of two is below the other
less_smaller : (n m : ℕ) (o : Option ℕ) → n ≤ m → is_smaller m o ≡ true → is_smaller n o ≡ true
less_smaller n m None le h = refl
less_smaller n m (Some k) le h = lt-ltb n k (omega (arith, le, ltb-true m k h))

-- what a list with one more pair is better than, the pair and the list are
record Parts (p : ℕ × ℕ) (xs ys : List (ℕ × ℕ)) : Type 0 where
  pair : is_smaller p.1 (number_of ys p.0) ≡ true
  list : is_better xs ys ≡ true

-- a fact of what a test chooses, whichever way it goes
on_test : {A : Type 0} (P : A → Type 0) {G : Type 0} (b : Bool) (x y : A) → P (if b then x else y) → (b ≡ true → P x → G)
    → (b ≡ false → P y → G) → G
on_test P true x y h on off = on refl h
on_test P false x y h on off = off refl h

parts : (p : ℕ × ℕ) (xs ys : List (ℕ × ℕ)) → is_better (put_pair p xs) ys ≡ true → Parts p xs ys
parts p [] ys h = record { pair = (and_parts (is_smaller p.1 (number_of ys p.0)) true h).0; list = refl }
parts p (x ∷ xs) ys h =
    on_test (λ l. is_better l ys ≡ true) (p.0 == x.0) _ _ h
    (λ same all.
    let two = and_parts (is_smaller (max p.1 x.1) (number_of ys p.0)) (is_better xs ys) all in
    let is : p.0 ≡ x.0 = eqb-true p.0 x.0 same in
    let mine : is_smaller p.1 (number_of ys p.0) ≡ true = less_smaller p.1 (max p.1 x.1) (number_of ys p.0) (omega arith) two.0 in
    let other : is_smaller x.1 (number_of ys p.0) ≡ true = less_smaller x.1 (max p.1 x.1) (number_of ys p.0) (omega arith) two.0 in
    record {
      pair = mine;
      list = and_from (is_smaller x.1 (number_of ys x.0)) (is_better xs ys) (subst (λ s. is_smaller x.1 (number_of ys s) ≡ true) is other)
          two.1;
    })
    (λ differ rest. on_test (λ l. is_better l ys ≡ true) (nat_lt p.0 x.0) _ _ rest
    (λ before all.
    let two = and_parts (is_smaller p.1 (number_of ys p.0)) (is_better (x ∷ xs) ys) all in
    record { pair = two.0; list = two.1 })
    (λ after all.
    let two = and_parts (is_smaller x.1 (number_of ys x.0)) (is_better (put_pair p xs) ys) all in
    let rest = parts p xs ys two.1 in
    record { pair = rest.pair; list = and_from (is_smaller x.1 (number_of ys x.0)) (is_better xs ys) two.0 rest.list }))

-- what a merged list is better than, both lists are
record Both (a b ys : List (ℕ × ℕ)) : Type 0 where
  first : is_better a ys ≡ true
  second : is_better b ys ≡ true

both : (a b ys : List (ℕ × ℕ)) → is_better (merged a b) ys ≡ true → Both a b ys
both [] b ys h = record { first = refl; second = h }
both (x ∷ a) b ys h =
    let p = parts x (merged a b) ys h in
    let rest = both a b ys p.list in
    record { first = and_from (is_smaller x.1 (number_of ys x.0)) (is_better a ys) p.pair rest.first; second = rest.second }

-- the test of preemption, as the test of the lists
by_budgets : (none other : Bool) (a b ys : List (ℕ × ℕ))
    → (if none then false else if other then true else is_better (merged a b) ys) ≡ true
    → ((if none then false else if other then true else is_better a ys) ≡ true)
    × ((if none then false else if other then true else is_better b ys) ≡ true)
by_budgets true other a b ys h = absurd (cc)
by_budgets false true a b ys h = (refl, refl)
by_budgets false false a b ys h = let two = both a b ys h in (two.first, two.second)

pub gives_no_power : MergingGivesNoPower
gives_no_power budget a b other ys h = let two = by_budgets (budget == 0) (other == 0) a b ys h in record { first = two.0; second = two.1 }
