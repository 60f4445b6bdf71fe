-- Counting how often a list has each number.
use Rattle.kernel_history.proofs.{◌≡◌, inl, inr, ℕ, ◌+◌, ◌<◌, ◌≤◌, ◌==◌, List, [], ◌∷◌, sym, ap, ◌∙◌, arith, length, get_or, take}
use Rattle.kernel_history.proofs.{take_more, length-take-le, get_or-set_same, get_or-set_other, times, times_append}
use Rattle.std.proofs.{Math.ListN.set, lemmas.Bool.cases_eq, lemmas.List.Sums.count_by-le-length}
use Rattle.kernel_history.proofs.Sums.{one_same, one_other}

module _ (names : List ℕ) (at : ℕ) (below : at < length names) where
  -- A number stands at most once at each place.
  pub at_most : (f : ℕ) → times f (take at names) ≤ at
  at_most f = let a = count_by-le-length (λ g. g == f) (take at names) in let b = length-take-le at names (omega (arith, below)) in
      omega (arith, a, b)

  one_more : (f : ℕ) → times f (take (at + 1) names) ≡ times f (take at names) + times f (get_or names at 0 ∷ [])
  one_more f = ap (times f) (take_more names at 0 below) ∙ times_append f (take at names) (get_or names at 0 ∷ [])

  module _ (counts : List ℕ) (frames : ℕ) (counted : (f : ℕ) → f < frames → get_or counts f 0 ≡ times f (take at names)) where
    -- The next number is counted.
    pub counts_next : (x : ℕ) → length counts ≡ frames → get_or names at 0 < frames → x ≡ get_or counts (get_or names at 0) 0
        → (f : ℕ) → f < frames → get_or (set counts (get_or names at 0) (x + 1)) f 0 ≡ times f (take (at + 1) names)
    counts_next x size inside is f h = elim (cases_eq f (get_or names at 0)) [
      | inl same ↦
          let a : get_or (set counts (get_or names at 0) (x + 1)) f 0 ≡ x + 1 =
          ap (λ k. get_or (set counts (get_or names at 0) (x + 1)) k 0) same
          ∙ get_or-set_same counts (get_or names at 0) (x + 1) 0 (omega (arith, size, inside)) in
          let b = one_more f in
          let d = one_same f (get_or names at 0) (sym same) in
          let e = counted f h in
          let g : get_or counts f 0 ≡ get_or counts (get_or names at 0) 0 = ap (λ k. get_or counts k 0) same in
          omega (arith, a, b, d, e, g, is)
      | inr other ↦
          let a = get_or-set_other counts (get_or names at 0) f (x + 1) 0 other in
          let b = one_more f in
          let d = one_other f (get_or names at 0) (λ e. other (sym e)) in
          let e = counted f h in
          omega (arith, a, b, d, e)
    ]

    -- The next number is passed over.
    pub counts_past : frames ≤ get_or names at 0 → (f : ℕ) → f < frames → get_or counts f 0 ≡ times f (take (at + 1) names)
    counts_past past f h =
        let b = one_more f in
        let d = one_other f (get_or names at 0) (λ e. omega (arith, e, past, h)) in
        let e = counted f h in
        omega (arith, b, d, e)
