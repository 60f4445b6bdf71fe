-- The list that is read from the words of a temporal capability is its list.
use Rattle.count_invariant.specs.core_invariant.proofs.{◌≡◌, ℕ, zero, suc, ◌<◌, ◌≤◌, ◌++◌, List, [], ◌∷◌, length, Option, Some, None, arith}
use Rattle.count_invariant.specs.core_invariant.proofs.{refl, sym, ◌∙◌, ap, subst, if◌then◌else◌, lt-ltb, quality_of_word, read_up}
use Rattle.count_invariant.specs.core_invariant.proofs.{slice_get, take, drop, read_word}
use Rattle.{count_invariant.specs.quality_lists.specs.spk_nums.specs.Qualities.IsQualityList}
use Rattle.{count_invariant.specs.quality_lists.proofs.Merges.takes_next, count_invariant.specs.stage_tcap.specs.Lists.read_pair}

-- A list is its first pairs, the next one, and the others.
record Split (qs : List (ℕ × ℕ)) (n : ℕ) (p : ℕ × ℕ) : Type 0 where
  whole : qs ≡ take n qs ++ p ∷ drop (suc n) qs
  more : take (suc n) qs ≡ take n qs ++ p ∷ []
  many : length (take n qs) ≡ n

split_at : (qs : List (ℕ × ℕ)) (n : ℕ) (p : ℕ × ℕ) → slice_get qs n ≡ Some p → Split qs n p
split_at [] n p is = absurd (cc)
split_at (x ∷ xs) zero p is = record {
  whole = ap (λ y. y ∷ xs) (same x p is);
  more = ap (λ y. y ∷ []) (same x p is);
  many = refl;
}
  where
    same : (v u : ℕ × ℕ) → Some v ≡ Some u → v ≡ u
    same v u h = cc
split_at (x ∷ xs) (suc n) p is =
    let rest = split_at xs n p is in record {
      whole = ap (λ ys. x ∷ ys) rest.whole;
      more = ap (λ ys. x ∷ ys) rest.more;
      many = ap suc rest.many;
    }

past_all : (qs : List (ℕ × ℕ)) (n : ℕ) → slice_get qs n ≡ None → take (suc n) qs ≡ take n qs
past_all [] zero is = refl
past_all [] (suc n) is = refl
past_all (x ∷ xs) zero is = absurd (cc)
past_all (x ∷ xs) (suc n) is = ap (λ ys. x ∷ ys) (past_all xs n is)

take_all : (qs : List (ℕ × ℕ)) (n : ℕ) → length qs ≤ n → take n qs ≡ qs
take_all [] zero few = refl
take_all [] (suc n) few = refl
take_all (x ∷ xs) zero few = absurd (omega (arith, few))
take_all (x ∷ xs) (suc n) few = ap (λ ys. x ∷ ys) (take_all xs n (omega (arith, few)))

-- The words say what the list is.
abbrev pub SayList : List (ℕ × ℕ) → (ℕ → ℕ) → ℕ → Type 0
SayList qs words n = (j : ℕ) → j < n → quality_of_word (words j) ≡ Some (record { 0 = slice_get qs j })

pub reads_list : (qs : List (ℕ × ℕ)) (words : ℕ → ℕ) (n : ℕ) → IsQualityList qs → n ≤ 8 → SayList qs words n
    → read_up words n ≡ Some (take n qs)
reads_list qs words zero sorted few says = refl
reads_list qs words (suc n) sorted few says =
    ap (λ o. read_word o (quality_of_word (words n)))
    (reads_list qs words n sorted (omega (arith, few)) (λ j low. says j (omega (arith, low))))
    ∙ ap (λ o. read_word (Some (take n qs)) o) (says n (omega arith)) ∙ next (slice_get qs n) refl
  where
    next : (o : Option (ℕ × ℕ)) → slice_get qs n ≡ o → read_pair (take n qs) o ≡ Some (take (suc n) qs)
    next None is = ap (λ ys. Some ys) (sym (past_all qs n is))
    next (Some p) is =
        let split = split_at qs n p is in
        ap (λ b. if b then Some (take n qs ++ p ∷ []) else None)
        (takes_next (take n qs) p (drop (suc n) qs) (subst IsQualityList split.whole sorted)
        ∙ lt-ltb (length (take n qs)) 8 (let many = split.many in omega (arith, many, few)))
        ∙ ap (λ ys. Some ys) (sym split.more)

pub reads_whole : (qs : List (ℕ × ℕ)) (words : ℕ → ℕ) → IsQualityList qs → length qs ≤ 8 → SayList qs words 8
    → read_up words 8 ≡ Some qs
reads_whole qs words sorted few says = reads_list qs words 8 sorted (omega arith) says ∙ ap (λ ys. Some ys) (take_all qs 8 few)
