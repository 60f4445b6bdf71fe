-- The numbers of worlds, and whether any of the first numbers is one of which something holds.
use Rattle.std.proofs.Common.{◌≡◌, inl, inr, ℕ, zero, suc, ◌+◌, ◌<◌, ◌≤◌, ◌==◌, ◌&&◌, ◌||◌, not, Bool, true, false, refl, sym, ◌∙◌, ap}
use Rattle.std.proofs.Common.{arith, List, [], ◌∷◌, length, Some, slice_get, slice_set, ◌≢◌, if◌then◌else◌, le-ltb}
use Rattle.world_lines.specs.{declared.ranges.WorldRange.WorldRange, Lines.has_range, Lines.is_told}
use Rattle.{world_lines.specs.number_at, world_lines.specs.any_below, std.proofs.lemmas.Bool.cases_lt, world_parts.specs.Sight.Sight}

-- What a list has at a position after a write, and elsewhere.
pub set_here : (xs : List ℕ) (i y : ℕ) → i < length xs → slice_get (slice_set xs i y) i ≡ Some y
set_here [] i y below = absurd (omega (arith, below))
set_here (x ∷ xs) zero y below = refl
set_here (x ∷ xs) (suc i) y below = set_here xs i y (omega (arith, below))

pub set_apart : (xs : List ℕ) (i j y : ℕ) → j ≢ i → slice_get (slice_set xs i y) j ≡ slice_get xs j
set_apart [] i j y ne = refl
set_apart (x ∷ xs) zero zero y ne = absurd (ne refl)
set_apart (x ∷ xs) zero (suc j) y ne = refl
set_apart (x ∷ xs) (suc i) zero y ne = refl
set_apart (x ∷ xs) (suc i) (suc j) y ne = set_apart xs i j y (λ e. ne (ap suc e))

module _ (x : Sight) (world : ℕ → ℕ) (ranges : List WorldRange) where
  pub number_none : number_at x world ranges 0 ≡ 0
  unfolding number_at
  number_none = refl

  pub number_more : (r : ℕ) → number_at x world ranges (r + 1)
      ≡ (if is_told x world ranges r then number_at x world ranges r + 1 else number_at x world ranges r)
  unfolding number_at
  number_more r = let e : r + 1 ≡ suc r = omega arith in rw e

  -- No world begins past the machine.
  not_told : (r : ℕ) → x.frames ≤ r → is_told x world ranges r ≡ false
  not_told r past = ap (λ b. b && (world r == r && (not (x.untyped r) || has_range r ranges))) (le-ltb r x.frames past)

  -- So the numbers from there on are the same.
  pub number_from : (r m : ℕ) → x.frames ≤ m → m ≤ r → number_at x world ranges r ≡ number_at x world ranges m
  number_from zero m past low = let e : 0 ≡ m = omega (arith, low) in ap (number_at x world ranges) e
  number_from (suc r) m past low = elim (cases_lt r m) [
    | inl less ↦ let e : suc r ≡ m = omega (arith, low, less) in ap (number_at x world ranges) e
    | inr more ↦
        let e : suc r ≡ r + 1 = omega arith in
        ap (number_at x world ranges) e ∙ number_more r
        ∙ ap (λ b. if b then number_at x world ranges r + 1 else number_at x world ranges r) (not_told r (omega (arith, past, more)))
        ∙ number_from r m past more
  ]

pub zero_number : (x : Sight) (world : ℕ → ℕ) (ranges : List WorldRange) → 0 ≡ number_at x world ranges 0
zero_number x world ranges = sym (number_none x world ranges)

pub more_most : (b : Bool) (t n : ℕ) → t ≤ n → (if b then t + 1 else t) ≤ n + 1
more_most true t n most = omega (arith, most)
more_most false t n most = omega (arith, most)

pub any_none : (is : ℕ → Bool) → any_below is 0 ≡ false
unfolding any_below
any_none is = refl

pub any_more : (is : ℕ → Bool) (n : ℕ) → any_below is (n + 1) ≡ (any_below is n || is n)
unfolding any_below
any_more is n = let e : n + 1 ≡ suc n = omega arith in rw e
