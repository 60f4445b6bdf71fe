-- Lists of qualities are alike exactly where they are equal.
use Rattle.seq_lookups.specs.seq_state.specs.kernel_rules.proofs.{◌≡◌, ℕ, ◌==◌, Bool, true, false, ◌&&◌, List, [], ◌∷◌, refl, sym, ap, ◌∙◌}
use Rattle.seq_lookups.specs.seq_state.specs.kernel_rules.proofs.{IsTrue, and_from}
use Rattle.seq_lookups.specs.seq_state.specs.kernel_rules.proofs.{eqb-true, eq-eqb, are_alike}
use Rattle.std.proofs.{Common.◌↔◌, lemmas.Bool.and_parts}

alike_equal : (xs ys : List (ℕ × ℕ)) → are_alike xs ys ≡ true → xs ≡ ys
alike_equal [] [] h = refl
alike_equal [] (y ∷ ys) h = absurd (cc)
alike_equal (x ∷ xs) [] h = absurd (cc)
alike_equal (x ∷ xs) (y ∷ ys) h =
    let outer = and_parts (x.0 == y.0) (x.1 == y.1 && are_alike xs ys) h in
    let inner = and_parts (x.1 == y.1) (are_alike xs ys) outer.1 in
    let first : x.0 ≡ y.0 = eqb-true x.0 y.0 outer.0 in
    let second : x.1 ≡ y.1 = eqb-true x.1 y.1 inner.0 in
    let rest : xs ≡ ys = alike_equal xs ys inner.1 in
    λ i. (first i, second i) ∷ rest i

alike_own : (xs : List (ℕ × ℕ)) → are_alike xs xs ≡ true
alike_own [] = refl
alike_own (x ∷ xs) = and_from (x.0 == x.0) (x.1 == x.1 && are_alike xs xs) (eq-eqb x.0 x.0 refl)
    (and_from (x.1 == x.1) (are_alike xs xs) (eq-eqb x.1 x.1 refl) (alike_own xs))

by_truth : (b d : Bool) → (b ≡ true → d ≡ true) → (d ≡ true → b ≡ true) → b ≡ d
by_truth true true p q = refl
by_truth false false p q = refl
by_truth true false p q = sym (p refl)
by_truth false true p q = q refl

-- A test of equality is the test of the definitions.
pub alike : (xs ys : List (ℕ × ℕ)) (b : Bool) → (IsTrue b ↔ (xs ≡ ys)) → b ≡ are_alike xs ys
alike xs ys b h = by_truth b (are_alike xs ys) (λ yes. ap (are_alike xs) (sym (h.0 yes)) ∙ alike_own xs)
    (λ same. h.1 (alike_equal xs ys same))
