-- One spelling for each head word.
use Rattle.std.proofs.Common.{◌≡◌, ℕ, ◌+◌, ◌*◌, ◌/◌, ◌%◌, ◌^◌, ◌<◌, nat_lt, Option, Some, None, IfSome, refl, subst, arith, lt-ltb}
use Rattle.tcap_words.specs.{HeadFits, word_of_head, head_of_word}
use Rattle.spk_nums.proofs.{Choices.kept, MarkLemmas.IsMarkNumber, MarkLemmas.mark_numbered, MarkLemmas.MarkFrom, MarkLemmas.mark_from}
use Rattle.spk_nums.specs.{Marks.number_of_mark, Marks.mark_of_number, Spelling.IsOneSpelling}
use Rattle.{std.proofs.Common.ltb-true, spk_nums.proofs.OneSpelling.spelling_reads, spk_nums.proofs.OneSpelling.spelling_spells}
use Rattle.{tcap_words.specs.Head.head_of, tcap_words.specs.declared.head_word.HeadWord.HeadWord}

reads : (v : HeadWord) → HeadFits v → head_of_word (word_of_head v) ≡ Some v
unfolding word_of_head head_of_word
reads v h =
    let m : ℕ = number_of_mark v.mark in
    let m_is : IsMarkNumber v.mark = mark_numbered v.mark h.1 in
    let most : v.budget < 2 ^ 32 = h.0 in
    let w : ℕ = v.budget + 2 ^ 32 * m + 2 ^ 36 * v.version in
    let budget : w % 2 ^ 32 ≡ v.budget = omega arith in
    let mark : w / 2 ^ 32 % 2 ^ 4 ≡ m = omega arith in
    let version : w / 2 ^ 36 ≡ v.version = omega arith in
    rw (budget, mark, version, m_is.back, lt-ltb v.version (2 ^ 28) h.2)

-- a head word within its ranges, whose word is this one
Spells : ℕ → HeadWord → Type 0
Spells w v = HeadFits v × (word_of_head v ≡ w)

spells_fields : (o : Option (Option ℕ)) (w : ℕ) (v : HeadWord)
    → mark_of_number (w / 2 ^ 32 % 2 ^ 4) ≡ o → head_of (w % 2 ^ 32) o (w / 2 ^ 36) ≡ Some v → Spells w v
unfolding Spells word_of_head
spells_fields None w v of_mark h = absurd (cc)
spells_fields (Some m) w v of_mark h =
    let (last, value) = kept (nat_lt (w / 2 ^ 36) (2 ^ 28)) (record { budget = w % 2 ^ 32; mark = m; version = w / 2 ^ 36 }) v h in
    let mark : MarkFrom (w / 2 ^ 32 % 2 ^ 4) m = mark_from (w / 2 ^ 32 % 2 ^ 4) m of_mark in
    let number : number_of_mark m ≡ w / 2 ^ 32 % 2 ^ 4 = mark.number in
    subst (Spells w) value ((omega arith, mark.in_range, ltb-true (w / 2 ^ 36) (2 ^ 28) last), omega arith)

spells : (w : ℕ) (v : HeadWord) → head_of_word w ≡ Some v → Spells w v
unfolding head_of_word
spells w v h = spells_fields _ w v refl h

small : (v : HeadWord) → HeadFits v → word_of_head v < 2 ^ 64
unfolding word_of_head
small v h =
    let m_is : IsMarkNumber v.mark = mark_numbered v.mark h.1 in
    omega (arith, h.0, h.2)

pub spelling : IsOneSpelling HeadFits word_of_head head_of_word
unfolding Spells
spelling = record { reads = reads; spells = spells; small = small }

-- what `unpack` says of the value read from a word
pub head_reads : (o : Option HeadWord) (w : ℕ) → o ≡ head_of_word w → (v : HeadWord) → HeadFits v → word_of_head v ≡ w → o ≡ Some v
head_reads = spelling_reads spelling

pub head_spells : (o : Option HeadWord) (w : ℕ) → o ≡ head_of_word w → IfSome o (λ v. HeadFits v × (word_of_head v ≡ w))
head_spells = spelling_spells spelling
