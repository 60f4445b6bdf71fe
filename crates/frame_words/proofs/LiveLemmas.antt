-- One spelling for each liveness word.
use Rattle.std.proofs.Common.{◌≡◌, ◌≢◌, ℕ, ◌+◌, ◌*◌, ◌/◌, ◌%◌, ◌^◌, ◌<◌, ◌==◌, ◌&&◌, nat_lt, nat_le, Option, Some, IfSome, refl, subst}
use Rattle.std.proofs.Common.{arith, ne_eqb, lt-ltb, le-leb, ltb-true, leb-true, eqb-true}
use Rattle.frame_words.specs.{LiveFits, word_of_live, live_of_word}
use Rattle.spk_nums.proofs.{Choices.kept, Choices.chosen, OneSpelling.spelling_reads, OneSpelling.spelling_spells}
use Rattle.frame_words.specs.Live.{live_of, closing_of, dead_of}
use Rattle.frame_words.specs.declared.live_word.LiveWord.TheVariants.{Free, Live, Closing, Dead}
use Rattle.{std.proofs.lemmas.Bool.and_parts, spk_nums.specs.Spelling.IsOneSpelling, frame_words.specs.declared.live_word.LiveWord.LiveWord}

reads : (v : LiveWord) → LiveFits v → live_of_word (word_of_live v) ≡ Some v
unfolding word_of_live live_of_word
reads Free h = refl
reads (Live e f) h =
    let w : ℕ = 1 + 2 ^ 2 * e + 2 ^ 18 * f in
    let last : e < 2 ^ 16 = h.1 in
    let some : w ≢ 0 = omega arith in
    let tag : w % 2 ^ 2 ≡ 1 = omega arith in
    let epoch : w / 2 ^ 2 % 2 ^ 16 ≡ e = omega arith in
    let frame : w / 2 ^ 18 ≡ f = omega arith in
    rw (ne_eqb w 0 some, tag, epoch, frame, le-leb 1 e h.0, lt-ltb f 512 h.2)
reads (Closing e c) h =
    let w : ℕ = 2 + 2 ^ 2 * e + 2 ^ 27 * c in
    let last : e < 2 ^ 16 = h.0 in
    let some : w ≢ 0 = omega arith in
    let tag : w % 2 ^ 2 ≡ 2 = omega arith in
    let between : w / 2 ^ 18 % 2 ^ 9 ≡ 0 = omega arith in
    let epoch : w / 2 ^ 2 % 2 ^ 16 ≡ e = omega arith in
    let by : w / 2 ^ 27 ≡ c = omega arith in
    rw (ne_eqb w 0 some, tag, between, epoch, by, lt-ltb c 8 h.1)
reads (Dead e s) h =
    let w : ℕ = 3 + 2 ^ 2 * e + 2 ^ 18 * s in
    let last : e < 2 ^ 16 = h.1 in
    let some : w ≢ 0 = omega arith in
    let tag : w % 2 ^ 2 ≡ 3 = omega arith in
    let epoch : w / 2 ^ 2 % 2 ^ 16 ≡ e = omega arith in
    let stamp : w / 2 ^ 18 ≡ s = omega arith in
    rw (ne_eqb w 0 some, tag, epoch, stamp, le-leb 1 e h.0, le-leb 1 s h.2, lt-ltb s (2 ^ 43) h.3)

-- a liveness word within its ranges, whose word is this one
Spells : ℕ → LiveWord → Type 0
Spells w v = LiveFits v × (word_of_live v ≡ w)

spells_free : (w : ℕ) (v : LiveWord) → w ≡ 0 → Some Free ≡ Some v → Spells w v
unfolding Spells word_of_live
spells_free w v none h =
    let value : Free ≡ v = cc in
    subst (Spells w) value (tt, omega arith)

spells_live : (w : ℕ) (v : LiveWord) → w % 2 ^ 2 ≡ 1 → live_of (w / 2 ^ 2 % 2 ^ 16) (w / 2 ^ 18) ≡ Some v → Spells w v
unfolding Spells word_of_live
spells_live w v tag h =
    let e : ℕ = w / 2 ^ 2 % 2 ^ 16 in
    let f : ℕ = w / 2 ^ 18 in
    let (tests, value) = kept (nat_le 1 e && nat_lt f 512) (Live e f) v h in
    let (least, frame) = and_parts (nat_le 1 e) _ tests in
    subst (Spells w) value ((leb-true 1 e least, omega arith, ltb-true f 512 frame), omega arith)

spells_closing : (w : ℕ) (v : LiveWord) → w % 2 ^ 2 ≡ 2 → w / 2 ^ 18 % 2 ^ 9 ≡ 0
    → closing_of (w / 2 ^ 2 % 2 ^ 16) (w / 2 ^ 27) ≡ Some v → Spells w v
unfolding Spells word_of_live
spells_closing w v tag between h =
    let e : ℕ = w / 2 ^ 2 % 2 ^ 16 in
    let c : ℕ = w / 2 ^ 27 in
    let (core, value) = kept (nat_lt c 8) (Closing e c) v h in
    subst (Spells w) value ((omega arith, ltb-true c 8 core), omega arith)

spells_dead : (w : ℕ) (v : LiveWord) → w % 2 ^ 2 ≡ 3 → dead_of (w / 2 ^ 2 % 2 ^ 16) (w / 2 ^ 18) ≡ Some v → Spells w v
unfolding Spells word_of_live
spells_dead w v tag h =
    let e : ℕ = w / 2 ^ 2 % 2 ^ 16 in
    let s : ℕ = w / 2 ^ 18 in
    let (tests, value) = kept (nat_le 1 e && (nat_le 1 s && nat_lt s (2 ^ 43))) (Dead e s) v h in
    let (epoch, stamps) = and_parts (nat_le 1 e) _ tests in
    let (least, last) = and_parts (nat_le 1 s) _ stamps in
    subst (Spells w) value ((leb-true 1 e epoch, omega arith, leb-true 1 s least, ltb-true s (2 ^ 43) last), omega arith)

spells : (w : ℕ) (v : LiveWord) → live_of_word w ≡ Some v → Spells w v
unfolding live_of_word
spells w v h =
    chosen (w == 0) _ _ (Some v) h
    (λ e f. spells_free w v (eqb-true w 0 e) f)
    (λ _ h1. chosen (w % 2 ^ 2 == 1) _ _ (Some v) h1
    (λ e f. spells_live w v (eqb-true (w % 2 ^ 2) 1 e) f)
    (λ _ h2. chosen (w % 2 ^ 2 == 2 && w / 2 ^ 18 % 2 ^ 9 == 0) _ _ (Some v) h2
    (λ e f. let p = and_parts (w % 2 ^ 2 == 2) (w / 2 ^ 18 % 2 ^ 9 == 0) e in
    spells_closing w v (eqb-true (w % 2 ^ 2) 2 p.0) (eqb-true (w / 2 ^ 18 % 2 ^ 9) 0 p.1) f)
    (λ _ h3. chosen (w % 2 ^ 2 == 3) _ _ (Some v) h3
    (λ e f. spells_dead w v (eqb-true (w % 2 ^ 2) 3 e) f)
    (λ _ f. absurd (cc)))))

small : (v : LiveWord) → LiveFits v → word_of_live v < 2 ^ 64
unfolding word_of_live
small Free h = omega arith
small (Live e f) h = omega (arith, h.1, h.2)
small (Closing e c) h = omega (arith, h.0, h.1)
small (Dead e s) h = omega (arith, h.1, h.3)

pub spelling : IsOneSpelling LiveFits word_of_live live_of_word
unfolding Spells
spelling = record { reads = reads; spells = spells; small = small }

-- what `unpack` says of the value read from a word
pub live_reads : (o : Option LiveWord) (w : ℕ) → o ≡ live_of_word w → (v : LiveWord) → LiveFits v → word_of_live v ≡ w → o ≡ Some v
live_reads = spelling_reads spelling

pub live_spells : (o : Option LiveWord) (w : ℕ) → o ≡ live_of_word w → IfSome o (λ v. LiveFits v × (word_of_live v ≡ w))
live_spells = spelling_spells spelling
