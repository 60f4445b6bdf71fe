-- When two names of words are one.
use Rattle.word_map.specs.{EntryAt, FrameAt, CountAt, CoreAt, FlushAt, LiveAt, ClockAt, same_word}
use Rattle.std.proofs.Common.{◌≡◌, ℕ, true, ◌&&◌, ◌==◌, refl, eq-eqb, eqb-true}
use Rattle.{std.proofs.lemmas.Bool.and_parts, word_map.specs.Word.Word}

-- a name is one with itself
pub same_same : (w : Word) → same_word w w ≡ true
same_same (EntryAt f i) = rw (eq-eqb f f refl, eq-eqb i i refl)
same_same (FrameAt f) = rw (eq-eqb f f refl)
same_same (CountAt f c) = rw (eq-eqb f f refl, eq-eqb c c refl)
same_same (CoreAt c) = rw (eq-eqb c c refl)
same_same (FlushAt c) = rw (eq-eqb c c refl)
same_same (LiveAt l) = rw (eq-eqb l l refl)
same_same ClockAt = refl

-- two tests that hold give two equal numbers each
pairs : (a b c d : ℕ) → (a == b && c == d) ≡ true → (a ≡ b) × (c ≡ d)
pairs a b c d h =
    let (first, second) = and_parts (a == b) (c == d) h in
    (eqb-true a b first, eqb-true c d second)

-- names that the test finds one are one
pub same_word-true : (w u : Word) → same_word w u ≡ true → w ≡ u
same_word-true (EntryAt f i) (EntryAt g j) h = let (frame, entry) = pairs f g i j h in cc
same_word-true (FrameAt f) (FrameAt g) h = let (frame, _) = pairs f g 0 0 h in cc
same_word-true (CountAt f c) (CountAt g d) h = let (frame, core) = pairs f g c d h in cc
same_word-true (CoreAt c) (CoreAt d) h = let (core, _) = pairs c d 0 0 h in cc
same_word-true (FlushAt c) (FlushAt d) h = let (core, _) = pairs c d 0 0 h in cc
same_word-true (LiveAt l) (LiveAt k) h = let (number, _) = pairs l k 0 0 h in cc
same_word-true ClockAt ClockAt h = refl
same_word-true w u h = absurd (cc)
