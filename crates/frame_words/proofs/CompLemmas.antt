-- One spelling for each component word.
use Rattle.std.proofs.Common.{◌≡◌, ℕ, ◌+◌, ◌*◌, ◌/◌, ◌%◌, ◌^◌, ◌<◌, ◌&&◌, nat_lt, nat_le, Option, Some, IfSome, subst, arith, lt-ltb}
use Rattle.std.proofs.Common.{le-leb, ltb-true, leb-true}
use Rattle.frame_words.specs.{CompFits, word_of_comp, comp_of_word}
use Rattle.spk_nums.proofs.{Choices.kept, OneSpelling.spelling_reads, OneSpelling.spelling_spells}
use Rattle.{std.proofs.lemmas.Bool.and_parts, spk_nums.specs.Spelling.IsOneSpelling, frame_words.specs.declared.comp_word.CompWord.CompWord}

reads : (v : CompWord) → CompFits v → comp_of_word (word_of_comp v) ≡ Some v
unfolding word_of_comp comp_of_word
reads v h =
    let w : ℕ = v.number + 2 ^ 6 * v.epoch in
    let number : w % 2 ^ 6 ≡ v.number = omega (arith, h.0) in
    let epoch : w / 2 ^ 6 ≡ v.epoch = omega (arith, h.0) in
    rw (number, epoch, le-leb 1 v.epoch h.1, lt-ltb v.epoch (2 ^ 16) h.2)

-- a component word within its ranges, whose word is this one
Spells : ℕ → CompWord → Type 0
Spells w v = CompFits v × (word_of_comp v ≡ w)

spells : (w : ℕ) (v : CompWord) → comp_of_word w ≡ Some v → Spells w v
unfolding Spells word_of_comp comp_of_word
spells w v h =
    let e : ℕ = w / 2 ^ 6 in
    let (tests, value) = kept (nat_le 1 e && nat_lt e (2 ^ 16)) (record { number = w % 2 ^ 6; epoch = e }) v h in
    let (least, last) = and_parts (nat_le 1 e) _ tests in
    subst (Spells w) value ((omega arith, leb-true 1 e least, ltb-true e (2 ^ 16) last), omega arith)

small : (v : CompWord) → CompFits v → word_of_comp v < 2 ^ 64
unfolding word_of_comp
small v h = omega (arith, h.0, h.2)

pub spelling : IsOneSpelling CompFits word_of_comp comp_of_word
unfolding Spells
spelling = record { reads = reads; spells = spells; small = small }

-- what `unpack` says of the value read from a word
pub comp_reads : (o : Option CompWord) (w : ℕ) → o ≡ comp_of_word w → (v : CompWord) → CompFits v → word_of_comp v ≡ w → o ≡ Some v
comp_reads = spelling_reads spelling

pub comp_spells : (o : Option CompWord) (w : ℕ) → o ≡ comp_of_word w → IfSome o (λ v. CompFits v × (word_of_comp v ≡ w))
comp_spells = spelling_spells spelling
