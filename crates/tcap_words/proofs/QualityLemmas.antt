-- One spelling for each quality word.
use Rattle.std.proofs.Common.{◌≡◌, ◌≢◌, true, ℕ, ◌+◌, ◌*◌, ◌/◌, ◌%◌, ◌^◌, ◌<◌, ◌≤◌, ◌==◌, ◌&&◌, nat_lt, nat_le, Option, Some, None, IfSome}
use Rattle.std.proofs.Common.{refl, subst, arith, ne_eqb, lt-ltb, le-leb, ltb-true, leb-true, eqb-true}
use Rattle.tcap_words.specs.{QualityFits, word_of_quality, quality_of_word}
use Rattle.spk_nums.proofs.{Choices.chosen, OneSpelling.spelling_reads, OneSpelling.spelling_spells}
use Rattle.tcap_words.specs.{Quality.PairFits, declared.quality_word.QualityWord.QualityWord}
use Rattle.{std.proofs.lemmas.Bool.and_parts, spk_nums.specs.Spelling.IsOneSpelling}

reads_pair : (o : Option (ℕ × ℕ)) → PairFits o → quality_of_word (word_of_quality (record { 0 = o })) ≡ Some (record { 0 = o })
unfolding word_of_quality quality_of_word
reads_pair None h = refl
reads_pair (Some p) h =
    let q : ℕ = p.1 in
    let s : ℕ = p.0 in
    let least : 1 ≤ q = h.1 in
    let last : q < 2 ^ 24 = h.2 in
    let w : ℕ = q + 2 ^ 24 * s in
    let some : w ≢ 0 = omega arith in
    let quality : w % 2 ^ 24 ≡ q = omega arith in
    let scheduler : w / 2 ^ 24 ≡ s = omega arith in
    rw (ne_eqb w 0 some, quality, scheduler, le-leb 1 q least, lt-ltb s 64 h.0)

reads : (v : QualityWord) → QualityFits v → quality_of_word (word_of_quality v) ≡ Some v
reads v h = reads_pair v.0 h

-- a quality word within its ranges, whose word is this one
Spells : ℕ → QualityWord → Type 0
Spells w v = QualityFits v × (word_of_quality v ≡ w)

spells_none : (w : ℕ) (v : QualityWord) → w ≡ 0 → Some (record { 0 = None }) ≡ Some v → Spells w v
unfolding Spells word_of_quality
spells_none w v none h =
    let u : QualityWord = record { 0 = None } in
    let value : u ≡ v = cc in
    subst (Spells w) value (tt, omega arith)

spells_some : (w : ℕ) (v : QualityWord) → (nat_le 1 (w % 2 ^ 24) && nat_lt (w / 2 ^ 24) 64) ≡ true
    → Some (record { 0 = Some (w / 2 ^ 24, w % 2 ^ 24) }) ≡ Some v → Spells w v
unfolding Spells word_of_quality
spells_some w v tests h =
    let (least, scheduler) = and_parts (nat_le 1 (w % 2 ^ 24)) _ tests in
    let u : QualityWord = record { 0 = Some (w / 2 ^ 24, w % 2 ^ 24) } in
    let value : u ≡ v = cc in
    subst (Spells w) value ((ltb-true (w / 2 ^ 24) 64 scheduler, leb-true 1 (w % 2 ^ 24) least, omega arith), omega arith)

spells : (w : ℕ) (v : QualityWord) → quality_of_word w ≡ Some v → Spells w v
unfolding quality_of_word
spells w v h =
    chosen (w == 0) _ _ (Some v) h
    (λ e f. spells_none w v (eqb-true w 0 e) f)
    (λ _ h1. chosen (nat_le 1 (w % 2 ^ 24) && nat_lt (w / 2 ^ 24) 64) _ _ (Some v) h1 (λ e f. spells_some w v e f) (λ _ f. absurd (cc)))

small_pair : (o : Option (ℕ × ℕ)) → PairFits o → word_of_quality (record { 0 = o }) < 2 ^ 64
unfolding word_of_quality
small_pair None h = omega arith
small_pair (Some p) h = omega (arith, h.0, h.2)

small : (v : QualityWord) → QualityFits v → word_of_quality v < 2 ^ 64
small v h = small_pair v.0 h

pub spelling : IsOneSpelling QualityFits word_of_quality quality_of_word
unfolding Spells
spelling = record { reads = reads; spells = spells; small = small }

-- what `unpack` says of the value read from a word
pub quality_reads : (o : Option QualityWord) (w : ℕ) → o ≡ quality_of_word w
    → (v : QualityWord) → QualityFits v → word_of_quality v ≡ w → o ≡ Some v
quality_reads = spelling_reads spelling

pub quality_spells : (o : Option QualityWord) (w : ℕ) → o ≡ quality_of_word w → IfSome o (λ v. QualityFits v × (word_of_quality v ≡ w))
quality_spells = spelling_spells spelling
