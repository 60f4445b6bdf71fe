-- One spelling for each stack word.
use Rattle.std.proofs.Common.{◌≡◌, ◌≢◌, true, ℕ, ◌+◌, ◌*◌, ◌/◌, ◌%◌, ◌^◌, ◌<◌, ◌==◌, ◌&&◌, nat_lt, Option, Some, None, IfSome, refl, subst}
use Rattle.std.proofs.Common.{arith, ne_eqb, lt-ltb, ltb-true, eqb-true}
use Rattle.tcap_words.specs.{word_of_stack, stack_of_word}
use Rattle.spk_nums.proofs.{Choices.chosen, OneSpelling.spelling_reads, OneSpelling.spelling_spells}
use Rattle.tcap_words.specs.{Stack.PlaceFits, Stack.StackFits, declared.stack_word.StackWord.StackWord}
use Rattle.{std.proofs.lemmas.Bool.and_parts, spk_nums.specs.Spelling.IsOneSpelling}

reads_place : (o : Option ℕ) → PlaceFits o → stack_of_word (word_of_stack (record { 0 = o })) ≡ Some (record { 0 = o })
unfolding word_of_stack stack_of_word
reads_place None h = refl
reads_place (Some f) h =
    let w : ℕ = 1 + 2 * f in
    let some : w ≢ 0 = omega arith in
    let tag : w % 2 ≡ 1 = omega arith in
    let frame : w / 2 ≡ f = omega arith in
    rw (ne_eqb w 0 some, tag, frame, lt-ltb f 512 h)

reads : (v : StackWord) → StackFits v → stack_of_word (word_of_stack v) ≡ Some v
reads v h = reads_place v.0 h

-- a stack word within its range, whose word is this one
Spells : ℕ → StackWord → Type 0
Spells w v = StackFits v × (word_of_stack v ≡ w)

spells_none : (w : ℕ) (v : StackWord) → w ≡ 0 → Some (record { 0 = None }) ≡ Some v → Spells w v
unfolding Spells word_of_stack
spells_none w v none h =
    let u : StackWord = record { 0 = None } in
    let value : u ≡ v = cc in
    subst (Spells w) value (tt, omega arith)

spells_some : (w : ℕ) (v : StackWord) → (w % 2 == 1 && nat_lt (w / 2) 512) ≡ true → Some (record { 0 = Some (w / 2) }) ≡ Some v → Spells w v
unfolding Spells word_of_stack
spells_some w v tests h =
    let (tag, frame) = and_parts (w % 2 == 1) _ tests in
    let odd : w % 2 ≡ 1 = eqb-true (w % 2) 1 tag in
    let u : StackWord = record { 0 = Some (w / 2) } in
    let value : u ≡ v = cc in
    subst (Spells w) value (ltb-true (w / 2) 512 frame, omega arith)

spells : (w : ℕ) (v : StackWord) → stack_of_word w ≡ Some v → Spells w v
unfolding stack_of_word
spells w v h =
    chosen (w == 0) _ _ (Some v) h
    (λ e f. spells_none w v (eqb-true w 0 e) f)
    (λ _ h1. chosen (w % 2 == 1 && nat_lt (w / 2) 512) _ _ (Some v) h1 (λ e f. spells_some w v e f) (λ _ f. absurd (cc)))

small_place : (o : Option ℕ) → PlaceFits o → word_of_stack (record { 0 = o }) < 2 ^ 64
unfolding word_of_stack
small_place None h = omega arith
small_place (Some f) h = omega arith

small : (v : StackWord) → StackFits v → word_of_stack v < 2 ^ 64
small v h = small_place v.0 h

pub spelling : IsOneSpelling StackFits word_of_stack stack_of_word
unfolding Spells
spelling = record { reads = reads; spells = spells; small = small }

-- what `unpack` says of the value read from a word
pub stack_reads : (o : Option StackWord) (w : ℕ) → o ≡ stack_of_word w → (v : StackWord) → StackFits v → word_of_stack v ≡ w → o ≡ Some v
stack_reads = spelling_reads spelling

pub stack_spells : (o : Option StackWord) (w : ℕ) → o ≡ stack_of_word w → IfSome o (λ v. StackFits v × (word_of_stack v ≡ w))
stack_spells = spelling_spells spelling
