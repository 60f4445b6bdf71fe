-- One spelling for each core word.
use Rattle.std.proofs.Common.{◌≡◌, ℕ, Bool, true, false, ◌+◌, ◌*◌, ◌/◌, ◌%◌, ◌^◌, ◌<◌, nat_lt, ◌==◌, Option, Some, IfSome, refl, subst}
use Rattle.std.proofs.Common.{arith, lt-ltb, ltb-true, eqb-true}
use Rattle.spk_nums.proofs.{Choices.kept, OneSpelling.spelling_reads, OneSpelling.spelling_spells}
use Rattle.{frame_words.specs.word_of_core, frame_words.specs.core_of_word, std.proofs.lemmas.Bool.eqb-false}
use Rattle.{spk_nums.specs.Spelling.IsOneSpelling, frame_words.specs.Core.CoreFits, frame_words.specs.declared.core_word.CoreWord.CoreWord}

reads_bit : (b : Bool) (s : ℕ) → s < 2 ^ 43
    → core_of_word (word_of_core (record { inside = b; stamp = s })) ≡ Some (record { inside = b; stamp = s })
unfolding word_of_core core_of_word
reads_bit true s h =
    let inside : (1 + 2 * s) % 2 ≡ 1 = omega arith in
    let stamp : (1 + 2 * s) / 2 ≡ s = omega arith in
    rw (inside, stamp, lt-ltb s (2 ^ 43) h)
reads_bit false s h =
    let inside : (0 + 2 * s) % 2 ≡ 0 = omega arith in
    let stamp : (0 + 2 * s) / 2 ≡ s = omega arith in
    rw (inside, stamp, lt-ltb s (2 ^ 43) h)

reads : (v : CoreWord) → CoreFits v → core_of_word (word_of_core v) ≡ Some v
reads v h = reads_bit v.inside v.stamp h

-- a core word within its ranges, whose word is this one
Spells : ℕ → CoreWord → Type 0
Spells w v = CoreFits v × (word_of_core v ≡ w)

spells_bit : (b : Bool) (w : ℕ) → (w % 2 == 1) ≡ b → w / 2 < 2 ^ 43 → Spells w (record { inside = b; stamp = w / 2 })
unfolding Spells word_of_core
spells_bit true w e h = (h, omega (arith, eqb-true (w % 2) 1 e))
spells_bit false w e h = (h, omega (arith, eqb-false (w % 2) 1 e))

spells : (w : ℕ) (v : CoreWord) → core_of_word w ≡ Some v → Spells w v
unfolding core_of_word
spells w v h =
    let (low, value) = kept (nat_lt (w / 2) (2 ^ 43)) (record { inside = w % 2 == 1; stamp = w / 2 }) v h in
    subst (Spells w) value (spells_bit (w % 2 == 1) w refl (ltb-true (w / 2) (2 ^ 43) low))

small_bit : (b : Bool) (s : ℕ) → s < 2 ^ 43 → word_of_core (record { inside = b; stamp = s }) < 2 ^ 64
unfolding word_of_core
small_bit true s h = omega arith
small_bit false s h = omega arith

small : (v : CoreWord) → CoreFits v → word_of_core v < 2 ^ 64
small v h = small_bit v.inside v.stamp h

pub spelling : IsOneSpelling CoreFits word_of_core core_of_word
unfolding Spells
spelling = record { reads = reads; spells = spells; small = small }

-- what `unpack` says of the value read from a word
pub core_reads : (o : Option CoreWord) (w : ℕ) → o ≡ core_of_word w → (v : CoreWord) → CoreFits v → word_of_core v ≡ w → o ≡ Some v
core_reads = spelling_reads spelling

pub core_spells : (o : Option CoreWord) (w : ℕ) → o ≡ core_of_word w → IfSome o (λ v. CoreFits v × (word_of_core v ≡ w))
core_spells = spelling_spells spelling
