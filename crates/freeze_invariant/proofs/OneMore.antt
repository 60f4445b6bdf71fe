-- One counter more is frozen, after those before it: of all other words the same is held as was.
use Rattle.scan_invariant.specs.kept_facts.proofs.{◌≡◌, ◌≢◌, ℕ, ◌+◌, ◌&&◌, ◌==◌, ◌++◌, leb as nat_le, ltb as nat_lt, Bool, true, false}
use Rattle.scan_invariant.specs.kept_facts.proofs.{List, [], ◌∷◌, length, slice_get, arith, refl, ◌∙◌, ap, inl, inr, ne_eqb, ltb-true}
use Rattle.scan_invariant.specs.kept_facts.proofs.{ltb-false, word_of_count, CountWord, Word, EntryAt, FrameAt, CountAt, CoreAt, FlushAt}
use Rattle.scan_invariant.specs.kept_facts.proofs.{LiveAt, ClockAt, Thaw, holds_thaw, Holding, Some, if◌then◌else◌, lt-ltb, released}
use Rattle.{scan_invariant.specs.kept_facts.proofs.got_before, std.proofs.lemmas.Bool.cases_eq}
use Rattle.{scan_invariant.specs.core_invariant.proofs.Freezing.SameAt, scan_invariant.specs.kept_facts.proofs.FrozenSums.length_more}

-- Another number is below the next one where it is below this.
lt_more : (d n : ℕ) → d ≢ n → nat_lt d (n + 1) ≡ nat_lt d n
lt_more d n other = by (nat_lt d n) refl
  where
    past : (b : Bool) → nat_lt d (n + 1) ≡ b → nat_lt d n ≡ false → b ≡ false
    past false is not = refl
    past true is not = let below = ltb-true d (n + 1) is in let from = ltb-false d n not in absurd (omega (arith, below, from, other))

    by : (b : Bool) → nat_lt d n ≡ b → nat_lt d (n + 1) ≡ b
    by true is = lt-ltb d (n + 1) (let below = ltb-true d n is in omega (arith, below))
    by false is = past (nat_lt d (n + 1)) refl is

-- The counters of a frame that are frozen, from the first on.
abbrev pub all_of : ℕ → List CountWord → Bool → Thaw
all_of g kept clear = record { frame = g; words = kept; clear = clear; at = 0 }

module _ (g : ℕ) (kept : List CountWord) (u : CountWord) (clear : Bool) (h : Holding) where
  abbrev before : Holding
  before = holds_thaw (Some (all_of g kept clear)) h

  abbrev after : Holding
  after = holds_thaw (Some (all_of g (kept ++ u ∷ []) clear)) h

  count_beside : (f d : ℕ) → CountAt f d ≢ CountAt g (length kept) → SameAt after before (CountAt f d)
  count_beside f d there = elim (cases_eq f g) [
    | inl same ↦ own (λ is. there (ap (λ (k : ℕ). CountAt k d) same ∙ ap (CountAt g) is))
    | inr other ↦ (
      away _ _ _ (f == g) (nat_le 0 d && nat_lt d (length (kept ++ u ∷ []))) (nat_le 0 d && nat_lt d (length kept)) (ne_eqb f g other),
      away _ _ _ (f == g) (nat_le 0 d && nat_lt d (length (kept ++ u ∷ []))) (nat_le 0 d && nat_lt d (length kept)) (ne_eqb f g other),
    )
  ]
    where
      away : {A : Type 0} (p q z : A) (x y y' : Bool) → x ≡ false → (if x && y then p else z) ≡ (if x && y' then q else z)
      away p q z false y y' is = refl
      away p q z true y y' is = absurd (cc)

      none : {A : Type 0} (p q z : A) (x y b : Bool) → b ≡ false → (if x && (y && b) then p else z) ≡ (if x && (y && b) then q else z)
      none p q z false y b is = refl
      none p q z true false b is = refl
      none p q z true true false is = refl
      none p q z true true true is = absurd (cc)

      own : d ≢ length kept → SameAt after before (CountAt f d)
      own other = (
        ap (λ b. if (f == g) && (nat_le 0 d && b) then true else h.marks (CountAt f d)) below,
        ap (λ b. if (f == g) && (nat_le 0 d && b) then word_of_count (released clear (slice_get (kept ++ u ∷ []) d)) else
            h.stands (CountAt f d)) below ∙ by (nat_lt d (length kept)) refl,
      )
        where
          below : nat_lt d (length (kept ++ u ∷ [])) ≡ nat_lt d (length kept)
          below = ap (nat_lt d) (length_more kept u) ∙ lt_more d (length kept) other

          by : (b : Bool) → nat_lt d (length kept) ≡ b
              → (if (f == g) && (nat_le 0 d && nat_lt d (length kept)) then word_of_count (released clear (slice_get (kept ++ u ∷ []) d))
              else
              h.stands (CountAt f d))
              ≡ (if (f == g) && (nat_le 0 d && nat_lt d (length kept)) then word_of_count (released clear (slice_get kept d)) else
              h.stands (CountAt f d))
          by true is = ap (λ o. if (f == g) && (nat_le 0 d && nat_lt d (length kept)) then word_of_count (released clear o) else
              h.stands (CountAt f d)) (got_before kept u d (ltb-true d (length kept) is))
          by false is = none _ _ _ (f == g) (nat_le 0 d) (nat_lt d (length kept)) is

  pub frozen_beside : (q : Word) → q ≢ CountAt g (length kept) → SameAt after before q
  frozen_beside (CountAt f d) there = count_beside f d there
  frozen_beside (EntryAt f i) there = (refl, refl)
  frozen_beside (FrameAt f) there = (refl, refl)
  frozen_beside (CoreAt c) there = (refl, refl)
  frozen_beside (FlushAt c) there = (refl, refl)
  frozen_beside (LiveAt l) there = (refl, refl)
  frozen_beside ClockAt there = (refl, refl)
