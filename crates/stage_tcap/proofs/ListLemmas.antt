-- Lists of qualities: when two are equal, and that each pair of one is within its range.
use Rattle.std.proofs.Common.{rules, ◌≡◌, ◌↔◌, ℕ, ◌==◌, ◌≤◌, Bool, true, false, ◌&&◌, IsTrue, List, [], ◌∷◌, length, zero, suc, Option}
use Rattle.std.proofs.Common.{Some, None, IfSome, nat_le, refl, sym, ap, ◌∙◌, slice_get, SomeIff, eqb-true, eq-eqb, leb-true, le-leb}
use Rattle.stage_tcap.specs.{same_list, merged_if, merge_of}
use Rattle.std.proofs.lemmas.Bool.{and_parts, and_from}
use Rattle.word_map.specs.spk_nums.specs.{Merging.merged, Qualities.IsQualityList, Qualities.PairFits}
use Rattle.tcap_words.specs.Quality as words

pub equal_lists : (xs ys : List (ℕ × ℕ)) → same_list xs ys ≡ true → xs ≡ ys
equal_lists [] [] h = refl
equal_lists [] (y ∷ ys) h = absurd (cc)
equal_lists (x ∷ xs) [] h = absurd (cc)
equal_lists (x ∷ xs) (y ∷ ys) h =
    let parts = and_parts (x.0 == y.0) (x.1 == y.1 && same_list xs ys) h in
    let others = and_parts (x.1 == y.1) (same_list xs ys) parts.1 in
    let first : x.0 ≡ y.0 = eqb-true x.0 y.0 parts.0 in
    let second : x.1 ≡ y.1 = eqb-true x.1 y.1 others.0 in
    let rest : xs ≡ ys = equal_lists xs ys others.1 in
    λ i. (first i, second i) ∷ rest i

own_list : (xs : List (ℕ × ℕ)) → same_list xs xs ≡ true
own_list [] = refl
own_list (x ∷ xs) = and_from (x.0 == x.0) (x.1 == x.1 && same_list xs xs) (eq-eqb x.0 x.0 refl)
    (and_from (x.1 == x.1) (same_list xs xs) (eq-eqb x.1 x.1 refl) (own_list xs))

-- and equal lists are found so
pub found_equal : (xs ys : List (ℕ × ℕ)) → xs ≡ ys → same_list xs ys ≡ true
found_equal xs ys h = ap (λ l. same_list xs l) (sym h) ∙ own_list xs

same_if : (b t : Bool) (xs ys : List (ℕ × ℕ)) → t ≡ same_list xs ys → IsTrue b ↔ (xs ≡ ys) → b ≡ t
same_if true true xs ys is h = refl
same_if false false xs ys is h = refl
same_if true false xs ys is h = absurd (let e = found_equal xs ys (h.0 (search rules)) in cc)
same_if false true xs ys is h = h.1 (equal_lists xs ys (sym is))

-- a test that is true exactly where two lists are equal is that of the definition
pub same_by : (b : Bool) (xs ys : List (ℕ × ℕ)) → IsTrue b ↔ (xs ≡ ys) → b ≡ same_list xs ys
same_by b xs ys h = same_if b (same_list xs ys) xs ys refl h

-- the pair at each place of a list of qualities is within its range
pub got_pair : (xs : List (ℕ × ℕ)) (k : ℕ) → IsQualityList xs → IfSome (slice_get xs k) PairFits
got_pair [] k h = tt
got_pair (x ∷ xs) zero h = h.0
got_pair (x ∷ xs) (suc k) h = got_pair xs k h.2

merged_by : (t : Bool) (o : Option (List (ℕ × ℕ))) (m : List (ℕ × ℕ))
    → t ≡ nat_le (length m) 8 → SomeIff o (length m ≤ 8) m → o ≡ merged_if t m
merged_by true None m is h = absurd (h (leb-true (length m) 8 (sym is)))
merged_by false None m is h = refl
merged_by true (Some v) m is h = ap Some h.1
merged_by false (Some v) m is h = absurd (let e : nat_le (length m) 8 ≡ true = le-leb (length m) 8 h.0 in cc)

-- a merge that is there exactly where it has room is that of the definition
pub merge_by : (o : Option (List (ℕ × ℕ))) (xs ys : List (ℕ × ℕ))
    → SomeIff o (length (merged xs ys) ≤ 8) (merged xs ys) → o ≡ merge_of xs ys
merge_by o xs ys h = merged_by _ o (merged xs ys) refl h

-- a word can hold such a pair
pub pair_in_word : (o : Option (ℕ × ℕ)) → IfSome o PairFits → words.PairFits o
pair_in_word None h = tt
pair_in_word (Some p) h = h
