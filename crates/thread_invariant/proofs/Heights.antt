-- What stands at the heights of a stack.
use Rattle.live_invariant.specs.kernel_history.proofs.{◌≡◌, ◌≢◌, ◌<◌, ◌≤◌, ◌-◌, inl, inr, ℕ, suc, List, [], ◌∷◌, length, Some, None, arith}
use Rattle.live_invariant.specs.kernel_history.proofs.{sym, ◌∙◌, ap, at_height, get_or, reverse}
use Rattle.std.proofs.lemmas.List.{length-reverse, get_or-reverse}
use Rattle.std.proofs.{lemmas.Bool.cases_lt, lemmas.Option.slice_get_past, lemmas.Option.slice_get-get_or}

height_is : (fs : List ℕ) (h : ℕ) → h < length fs → at_height fs h ≡ Some (get_or fs (length fs - 1 - h) 0)
height_is fs h below = slice_get-get_or (reverse fs) h 0 (let same = length-reverse fs in omega (arith, same, below))
    ∙ ap (λ (n : ℕ). Some n) (get_or-reverse fs h 0 below)

pub above_top : (fs : List ℕ) (h : ℕ) → length fs ≤ h → at_height fs h ≡ None
above_top fs h past = slice_get_past (reverse fs) h (let same = length-reverse fs in omega (arith, same, past))

-- The top stands at the depth of what is below it, and below it stands what stood there.
pub at_top : (f : ℕ) (fs : List ℕ) → at_height (f ∷ fs) (length fs) ≡ Some f
at_top f fs = height_is (f ∷ fs) (length fs) (omega arith) ∙ ap (λ (n : ℕ). Some (get_or (f ∷ fs) n 0)) first
  where
    first : length (f ∷ fs) - 1 - length fs ≡ 0
    first = omega arith

under_top : (f : ℕ) (fs : List ℕ) (h : ℕ) → h < length fs → at_height (f ∷ fs) h ≡ at_height fs h
under_top f fs h below = height_is (f ∷ fs) h (omega (arith, below)) ∙ ap (λ (n : ℕ). Some (get_or (f ∷ fs) n 0)) next
    ∙ sym (height_is fs h below)
  where
    next : length (f ∷ fs) - 1 - h ≡ suc (length fs - 1 - h)
    next = omega (arith, below)

pub beside_top : (f : ℕ) (fs : List ℕ) (h : ℕ) → h ≢ length fs → at_height (f ∷ fs) h ≡ at_height fs h
beside_top f fs h other = elim (cases_lt h (length fs)) [
  | inl below ↦ under_top f fs h below
  | inr past ↦ above_top (f ∷ fs) h (let apart = other in omega (arith, past, apart)) ∙ sym (above_top fs h past)
]

-- The component below the top.
pub at_below : (f g : ℕ) (fs : List ℕ) → at_height (f ∷ g ∷ fs) (length fs) ≡ Some g
at_below f g fs = under_top f (g ∷ fs) (length fs) (omega arith) ∙ at_top g fs
