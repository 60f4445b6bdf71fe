-- Going through a list of pairs from its first.
use Rattle.std.proofs.Common.{◌≡◌, ◌≢◌, ℕ, zero, suc, ◌+◌, ◌≤◌, ◌&&◌, List, [], ◌∷◌, length, drop, Some, None, refl, sym, ap, ◌∙◌, arith}
use Rattle.{std.proofs.Common.slice_get, std.proofs.Common.ne_eqb, std.proofs.Common.eq-eqb, std.proofs.lemmas.List.drop_all}
use Rattle.{spk_nums.specs.Merging.number_of, spk_nums.specs.Merging.is_smaller, spk_nums.specs.Merging.is_better}

-- what is left of a list at one of its pairs
at_pair : (xs : List (ℕ × ℕ)) (i : ℕ) (x : ℕ × ℕ) → slice_get xs i ≡ Some x → drop i xs ≡ x ∷ drop (i + 1) xs
at_pair [] i x h = absurd (cc)
at_pair (y ∷ xs) zero x h = cc
at_pair (y ∷ xs) (suc i) x h =
    let one : suc (i + 1) ≡ suc i + 1 = omega arith in
    at_pair xs i x h ∙ ap (λ k. x ∷ drop k (y ∷ xs)) one

-- what is left of a list past its pairs
at_end : (xs : List (ℕ × ℕ)) (i : ℕ) → slice_get xs i ≡ None → drop i xs ≡ []
at_end [] zero h = refl
at_end [] (suc i) h = refl
at_end (y ∷ xs) zero h = absurd (cc)
at_end (y ∷ xs) (suc i) h = at_end xs i h

pub found_here : (xs : List (ℕ × ℕ)) (i sched : ℕ) (x : ℕ × ℕ) → slice_get xs i ≡ Some x → x.0 ≡ sched → number_of (drop i xs) sched
    ≡ Some x.1
found_here xs i sched x h is = ap (λ l. number_of l sched) (at_pair xs i x h) ∙ rw (eq-eqb x.0 sched is)

pub passed_here : (xs : List (ℕ × ℕ)) (i sched : ℕ) (x : ℕ × ℕ) → slice_get xs i ≡ Some x → x.0 ≢ sched → number_of (drop i xs) sched
    ≡ number_of (drop (i + 1) xs) sched
passed_here xs i sched x h other = ap (λ l. number_of l sched) (at_pair xs i x h) ∙ rw (ne_eqb x.0 sched other)

-- the first of the pairs that are left is judged, then the others
pub judged : (xs ys : List (ℕ × ℕ)) (i : ℕ) (x : ℕ × ℕ) → slice_get xs i ≡ Some x
    → is_better (drop i xs) ys ≡ (is_smaller x.1 (number_of ys x.0) && is_better (drop (i + 1) xs) ys)
judged xs ys i x h = ap (λ l. is_better l ys) (at_pair xs i x h)

pub past_end : (xs : List (ℕ × ℕ)) (i : ℕ) → slice_get xs i ≡ None → drop i xs ≡ drop (i + 1) xs
past_end [] zero h = refl
past_end [] (suc i) h = sym (at_end [] (suc i + 1) refl)
past_end (y ∷ xs) zero h = absurd (cc)
past_end (y ∷ xs) (suc i) h =
    let one : suc (i + 1) ≡ suc i + 1 = omega arith in
    past_end xs i h ∙ ap (λ k. drop k (y ∷ xs)) one

pub all_passed : (xs : List (ℕ × ℕ)) (i : ℕ) → length xs ≤ i → drop i xs ≡ []
all_passed xs i h = drop_all i xs h
