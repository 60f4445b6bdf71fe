-- The counters of a frame that were frozen in order: where each count word shows the count and the stamp that were found there, the counts
-- that they show sum to those found, and the newest stamp that they show is the latest found.
use Rattle.core_invariant.proofs.{◌≡◌, ℕ, zero, suc, ℤ, pos, ◌+ℤ◌, ◌+◌, ◌<◌, max, List, [], ◌∷◌, ◌++◌, length, slice_get, Option, Some}
use Rattle.core_invariant.proofs.{arith, refl, sym, ◌∙◌, ap, subst, All, CountWord, counters, count_in, count_sum, latest_stamp, stamp_in}
use Rattle.std.proofs.{Common.fold, lemmas.Int.ints, lemmas.List.Elements.All-get_or, lemmas.List.Elements.All-head}
use Rattle.std.proofs.{lemmas.List.Elements.All-tail, lemmas.List.FromFn.length-range_with_len, lemmas.Option.get_or_from_slice_get}
use Rattle.core_invariant.specs.stage_sweep.specs.Counters.{add_count, sum_of_counts, later_of}
use Rattle.{core_invariant.proofs.newest_of, std.proofs.lemmas.Option.slice_get_within, std.specs.List.range_with_len}

-- An element of a list that is followed by one more is in the list, or is that one.
pub got_before : {A : Type 0} (xs : List A) (x : A) (d : ℕ) → d < length xs → slice_get (xs ++ x ∷ []) d ≡ slice_get xs d
got_before [] x d below = absurd (omega (arith, below))
got_before (y ∷ ys) x zero below = refl
got_before (y ∷ ys) x (suc d) below = got_before ys x d (omega (arith, below))

pub got_last : {A : Type 0} (xs : List A) (x : A) → slice_get (xs ++ x ∷ []) (length xs) ≡ Some x
got_last [] x = refl
got_last (y ∷ ys) x = got_last ys x

pub length_more : {A : Type 0} (xs : List A) (x : A) → length (xs ++ x ∷ []) ≡ length xs + 1
length_more [] x = refl
length_more (y ∷ ys) x = let rest = length_more ys x in omega (arith, rest)

-- What holds of all elements of a list holds of each.
pub got_all : {A : Type 0} (P : A → Type 0) (xs : List A) (d : ℕ) (x : A) → slice_get xs d ≡ Some x → All P xs → P x
got_all P xs d x at all = subst P (get_or_from_slice_get xs d x x at) (All-get_or P xs d x (slice_get_within xs d x at) all)

-- A frame has as many counters as there are cores, numbered from 0 on.
pub counters_length : (n : ℕ) → length (counters n) ≡ n
counters_length n = length-range_with_len 0 n

pub counters_are : (n m : ℕ) → m ≡ length (counters n) → counters n ≡ range_with_len 0 m
counters_are n m all = ap (range_with_len 0) (sym (all ∙ counters_length n))

-- What count words show.
module _ (shown : ℕ → Option CountWord) where
  -- The count words from this number on show what was found there.
  abbrev pub ShowFrom : ℕ → List CountWord → Type 0
  ShowFrom from kept = (d : ℕ) (v : CountWord) → slice_get kept d ≡ Some v
      → (count_in (shown (from + d)) ≡ v.count) × (stamp_in (shown (from + d)) ≡ v.stamp)

  rest_show : (from : ℕ) (v : CountWord) (kept : List CountWord) → ShowFrom from (v ∷ kept) → ShowFrom (from + 1) kept
  rest_show from v kept shows d u at = subst
      (λ (n : ℕ). (count_in (shown n) ≡ u.count) × (stamp_in (shown n) ≡ u.stamp)) (omega arith) (shows (suc d) u at)

  first_shows : (from : ℕ) (v : CountWord) (kept : List CountWord) → ShowFrom from (v ∷ kept)
      → (count_in (shown from) ≡ v.count) × (stamp_in (shown from) ≡ v.stamp)
  first_shows from v kept shows = subst
      (λ (n : ℕ). (count_in (shown n) ≡ v.count) × (stamp_in (shown n) ≡ v.stamp)) (omega arith) (shows 0 v refl)

  sum_on : (from : ℕ) (z : ℤ) (kept : List CountWord) → ShowFrom from kept
      → z +ℤ count_sum shown (range_with_len from (length kept)) ≡ fold add_count z kept
  sum_on from z [] shows = omega (arith, ints)
  sum_on from z (v ∷ kept) shows =
      let rest = sum_on (from + 1) (z +ℤ v.count) kept (rest_show from v kept shows) in
      let first = (first_shows from v kept shows).0 in
      added z (count_in (shown from)) v.count (count_sum shown (range_with_len (from + 1) (length kept))) first ∙ rest
    where
      added : (z x y rest : ℤ) → x ≡ y → z +ℤ (x +ℤ rest) ≡ (z +ℤ y) +ℤ rest
      added z x y rest same = omega (arith, ints, same)

  newest_on : (from z : ℕ) (kept : List CountWord) → ShowFrom from kept
      → max z (newest_of shown (range_with_len from (length kept))) ≡ fold later_of z kept
  newest_on from z [] shows = omega arith
  newest_on from z (v ∷ kept) shows =
      let rest = newest_on (from + 1) (max z v.stamp) kept (rest_show from v kept shows) in
      let first = (first_shows from v kept shows).1 in
      added z (stamp_in (shown from)) v.stamp (newest_of shown (range_with_len (from + 1) (length kept))) first ∙ rest
    where
      added : (z x y rest : ℕ) → x ≡ y → max z (max x rest) ≡ max (max z y) rest
      added z x y rest same = omega (arith, same)

  -- So it is of a frame whose count words were all frozen.
  pub frozen_sum : (kept : List CountWord)
      → ((d : ℕ) (v : CountWord) → slice_get kept d ≡ Some v → (count_in (shown d) ≡ v.count) × (stamp_in (shown d) ≡ v.stamp))
      → (count_sum shown (range_with_len 0 (length kept)) ≡ sum_of_counts kept)
      × (newest_of shown (range_with_len 0 (length kept)) ≡ latest_stamp kept)
  frozen_sum kept shows =
      let all : ShowFrom 0 kept = λ d v at. subst
      (λ (n : ℕ). (count_in (shown n) ≡ v.count) × (stamp_in (shown n) ≡ v.stamp)) (omega arith) (shows d v at) in
      let sum = sum_on 0 (pos 0) kept all in
      let newest = newest_on 0 0 kept all in (
        plain (count_sum shown (range_with_len 0 (length kept))) ∙ sum,
        omega (arith, newest),
      )
    where
      plain : (x : ℤ) → x ≡ pos 0 +ℤ x
      plain x = omega (arith, ints)

-- Counters that are cleared sum to 0, and their newest stamp is 0.
pub cleared_sum : (shown : ℕ → Option CountWord) (cs : List ℕ)
    → All (λ (d : ℕ). (count_in (shown d) ≡ pos 0) × (stamp_in (shown d) ≡ 0)) cs
    → (count_sum shown cs ≡ pos 0) × (newest_of shown cs ≡ 0)
cleared_sum shown [] all = (refl, refl)
cleared_sum shown (c ∷ cs) all =
    let first = All-head (λ (d : ℕ). (count_in (shown d) ≡ pos 0) × (stamp_in (shown d) ≡ 0)) c cs all in
    let rest = cleared_sum shown cs (All-tail (λ (d : ℕ). (count_in (shown d) ≡ pos 0) × (stamp_in (shown d) ≡ 0)) c cs all) in
    let sum = rest.0 in
    let newest = rest.1 in
    let count = first.0 in
    let stamp = first.1 in (
      omega (arith, ints, sum, count),
      omega (arith, newest, stamp),
    )
