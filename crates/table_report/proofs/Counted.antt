-- The sum of the counts that count words show, one word more at a time.
use Rattle.table_lines.specs.kernel_history.proofs.{◌≡◌, ℕ, ◌+ℤ◌, zero, suc, ◌+◌, ◌++◌, List, [], ◌∷◌, Option, ap, ◌∙◌, arith, CountWord}
use Rattle.table_lines.specs.kernel_history.proofs.{count_in, count_sum}
use Rattle.{std.specs.List.range_with_len, std.proofs.lemmas.Int.ints}

sum_append : (shown : ℕ → Option CountWord) (cs : List ℕ) (c : ℕ)
    → count_sum shown (cs ++ c ∷ []) ≡ count_sum shown cs +ℤ count_in (shown c)
sum_append shown [] c = omega (arith, ints)
sum_append shown (x ∷ xs) c = let e = sum_append shown xs c in omega (arith, ints, e)

range_more : (a n : ℕ) → range_with_len a (suc n) ≡ range_with_len a n ++ (a + n) ∷ []
range_more a zero = let e : a ≡ a + 0 = omega arith in ap (λ k. k ∷ []) e
range_more a (suc n) =
    let e : a + 1 + n ≡ a + suc n = omega arith in
    ap (λ ks. a ∷ ks) (range_more (a + 1) n) ∙ ap (λ k. a ∷ (range_with_len (a + 1) n ++ k ∷ [])) e

pub sum_more : (shown : ℕ → Option CountWord) (n : ℕ)
    → count_sum shown (range_with_len 0 (n + 1)) ≡ count_sum shown (range_with_len 0 n) +ℤ count_in (shown n)
sum_more shown n =
    let e : n + 1 ≡ suc n = omega arith in
    let z : 0 + n ≡ n = omega arith in
    ap (λ k. count_sum shown (range_with_len 0 k)) e
    ∙ ap (count_sum shown) (range_more 0 n)
    ∙ ap (λ k. count_sum shown (range_with_len 0 n ++ k ∷ [])) z
    ∙ sum_append shown (range_with_len 0 n) n
