-- Distinct words have distinct places.
use Rattle.word_map.specs.{EntryAt, FrameAt, CountAt, CoreAt, FlushAt, LiveAt, ClockAt, Shape, IsShape, IsIn, HasPlaces, place_of, size_of}
use Rattle.std.proofs.Common.{◌≡◌, ℕ, ◌+◌, ◌*◌, ◌<◌, ◌≤◌, ◌⊎◌, refl, ap, arith, inl, inr}
use Rattle.std.proofs.{Math.Nat.mul-le-mul_left, lemmas.Bool.cases_order}
use Rattle.word_map.specs.{Word.Word, Places.core_words}

-- the words of one core end before those of a later core begin
pub row_ends : (n c d : ℕ) → c < d → n * c + n ≤ n * d
row_ends n c d h =
    let next : n * (c + 1) ≤ n * d = mul-le-mul_left n (omega arith) in
    let split : n * (c + 1) ≡ n * c + n = omega arith in
    omega arith

-- the cores have 4,112 words at most
pub rows_end : (n c : ℕ) → n ≤ 514 → c ≤ 8 → n * c ≤ 4112
rows_end n c h k =
    let rows : n * c ≤ n * 8 = mul-le-mul_left n k in
    omega arith

-- words of cores that have one place are of one core
same_row : (n c d i j : ℕ) → i < n → j < n → n * c + i ≡ n * d + j → c ≡ d
same_row n c d i j below under same = one (cases_order c d) where
  one : (c ≡ d) ⊎ ((c < d) ⊎ (d < c)) → c ≡ d
  one (inl e) = e
  one (inr (inl h)) = absurd (omega (arith, row_ends n c d h))
  one (inr (inr h)) = absurd (omega (arith, row_ends n d c h))

-- two words of cores at one place are of one core, and stand at one place among its words
same_both : (n c d i j : ℕ) → i < n → j < n → n * c + i ≡ n * d + j → (c ≡ d) × (i ≡ j)
same_both n c d i j below under same =
    let core : c ≡ d = same_row n c d i j below under same in
    let begins : n * c ≡ n * d = ap (λ k. n * k) core in
    (core, omega (arith, same, begins))

-- the words of a core end before the liveness words begin
Row : Shape → ℕ → Type 0
Row s c = core_words s * c + core_words s ≤ core_words s * s.cores

row : (s : Shape) (c : ℕ) → c < s.cores → Row s c
unfolding Row
row s c h = row_ends (core_words s) c s.cores h

-- what a word's core asks of the rows
OfCore : Shape → Word → Type 0
OfCore s (CountAt f c) = Row s c
OfCore s (CoreAt c) = Row s c
OfCore s (FlushAt c) = Row s c
OfCore s _ = Unit {0}

of_core : (s : Shape) (w : Word) → IsIn s w → OfCore s w
unfolding OfCore
of_core s (CountAt f c) h = row s c h.1
of_core s (CoreAt c) h = row s c h
of_core s (FlushAt c) h = row s c h
of_core s (EntryAt f i) h = tt
of_core s (FrameAt f) h = tt
of_core s (LiveAt l) h = tt
of_core s ClockAt h = tt

below : (s : Shape) → IsShape s → (w : Word) → IsIn s w → OfCore s w → place_of s w < size_of s
unfolding place_of size_of Row OfCore
below s h (EntryAt f i) p r = omega arith
below s h (FrameAt f) p r = omega arith
below s h (CountAt f c) p r = omega (arith, r, p.0)
below s h (CoreAt c) p r = omega (arith, r)
below s h (FlushAt c) p r = omega (arith, r)
below s h (LiveAt l) p r = omega arith
below s h ClockAt p r = omega arith

distinct : (s : Shape) → IsShape s → (w u : Word) → IsIn s w → IsIn s u
    → OfCore s w → OfCore s u → place_of s w ≡ place_of s u → w ≡ u
unfolding place_of Row OfCore
distinct s h (EntryAt f i) (EntryAt g j) p q r t same =
    let frame : f ≡ g = omega arith in
    let entry : i ≡ j = omega arith in
    cc
distinct s h (FrameAt f) (FrameAt g) p q r t same = let frame : f ≡ g = omega arith in cc
distinct s h (CountAt f c) (CountAt g d) p q r t same =
    let both = same_both (core_words s) c d f g (omega (arith, p.0)) (omega (arith, q.0)) (omega arith) in
    let core : c ≡ d = both.0 in
    let frame : f ≡ g = both.1 in
    cc
distinct s h (CoreAt c) (CoreAt d) p q r t same =
    let core : c ≡ d = (same_both (core_words s) c d s.frames s.frames (omega arith) (omega arith) (omega arith)).0 in
    cc
distinct s h (FlushAt c) (FlushAt d) p q r t same =
    let core : c ≡ d = (same_both (core_words s) c d (s.frames + 1) (s.frames + 1) (omega arith) (omega arith) (omega arith)).0 in
    cc
distinct s h (CountAt f c) (CoreAt d) p q r t same =
    let both = same_both (core_words s) c d f s.frames (omega (arith, p.0)) (omega arith) (omega arith) in
    absurd (omega (arith, both.1, p.0))
distinct s h (CountAt f c) (FlushAt d) p q r t same =
    let both = same_both (core_words s) c d f (s.frames + 1) (omega (arith, p.0)) (omega arith) (omega arith) in
    absurd (omega (arith, both.1, p.0))
distinct s h (CoreAt c) (CountAt f d) p q r t same =
    let both = same_both (core_words s) c d s.frames f (omega arith) (omega (arith, q.0)) (omega arith) in
    absurd (omega (arith, both.1, q.0))
distinct s h (CoreAt c) (FlushAt d) p q r t same =
    let both = same_both (core_words s) c d s.frames (s.frames + 1) (omega arith) (omega arith) (omega arith) in
    absurd (omega (arith, both.1))
distinct s h (FlushAt c) (CountAt f d) p q r t same =
    let both = same_both (core_words s) c d (s.frames + 1) f (omega arith) (omega (arith, q.0)) (omega arith) in
    absurd (omega (arith, both.1, q.0))
distinct s h (FlushAt c) (CoreAt d) p q r t same =
    let both = same_both (core_words s) c d (s.frames + 1) s.frames (omega arith) (omega arith) (omega arith) in
    absurd (omega (arith, both.1))
distinct s h (LiveAt l) (LiveAt k) p q r t same = let number : l ≡ k = omega arith in cc
distinct s h ClockAt ClockAt p q r t same = refl
distinct s h w u p q r t same = absurd (omega arith)

small : (s : Shape) → IsShape s → size_of s ≤ 37457
unfolding size_of
small s h = omega (arith, rows_end (core_words s) s.cores (omega (arith, h.most_frames)) h.most_cores)

pub has_places : (s : Shape) → IsShape s → HasPlaces s
has_places s h = record {
  below = λ w p. below s h w p (of_core s w p);
  distinct = λ w u p q. distinct s h w u p q (of_core s w p) (of_core s u q);
  small = small s h;
}
