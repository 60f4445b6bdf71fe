-- One spelling for each thread word.
use Rattle.std.proofs.Common.{◌≡◌, ℕ, ◌+◌, ◌*◌, ◌/◌, ◌%◌, ◌^◌, ◌<◌, ◌≤◌, ◌==◌, ◌&&◌, nat_le, Option, Some, IfSome, refl, subst, arith}
use Rattle.std.proofs.Common.{le-leb, leb-true, eqb-true}
use Rattle.tcap_words.specs.{DepthFits, ThreadFits, word_of_thread, thread_of_word}
use Rattle.spk_nums.proofs.{Choices.chosen, OneSpelling.spelling_reads, OneSpelling.spelling_spells}
use Rattle.tcap_words.specs.{Thread.state_of, declared.thread_word.ThreadWord.ThreadWord, declared.thread_word.ThreadWord.TheVariants.Idle}
use Rattle.tcap_words.specs.{declared.thread_word.ThreadWord.TheVariants.Running, declared.thread_word.ThreadWord.TheVariants.Claimed}
use Rattle.{std.proofs.lemmas.Bool.and_parts, spk_nums.specs.Spelling.IsOneSpelling}

-- a word is read by its three numbers, where the depth is within its range
read_by : (w state core depth : ℕ) → state < 4 → core < 8 → DepthFits depth
    → w ≡ state + 2 ^ 2 * core + 2 ^ 5 * depth → thread_of_word w ≡ state_of state core depth
unfolding thread_of_word
read_by w state core depth small_state small_core fits is =
    let state_is : w % 2 ^ 2 ≡ state = omega arith in
    let core_is : w / 2 ^ 2 % 2 ^ 3 ≡ core = omega arith in
    let depth_is : w / 2 ^ 5 ≡ depth = omega arith in
    rw (state_is, core_is, depth_is, le-leb 1 depth fits.0, le-leb depth 16 fits.1)

reads : (v : ThreadWord) → ThreadFits v → thread_of_word (word_of_thread v) ≡ Some v
unfolding word_of_thread
reads (Idle d) h = read_by (2 ^ 5 * d) 0 0 d (omega arith) (omega arith) h (omega arith)
reads (Running c d) h = read_by (1 + 2 ^ 2 * c + 2 ^ 5 * d) 1 c d (omega arith) h.0 h.1 refl
reads (Claimed c d) h = read_by (2 + 2 ^ 2 * c + 2 ^ 5 * d) 2 c d (omega arith) h.0 h.1 refl

-- a thread word within its ranges, whose word is this one
Spells : ℕ → ThreadWord → Type 0
Spells w v = ThreadFits v × (word_of_thread v ≡ w)

spells_idle : (w : ℕ) (v : ThreadWord) → w % 2 ^ 2 ≡ 0 → w / 2 ^ 2 % 2 ^ 3 ≡ 0
    → DepthFits (w / 2 ^ 5) → Some (Idle (w / 2 ^ 5)) ≡ Some v → Spells w v
unfolding Spells word_of_thread
spells_idle w v state core depth h =
    let value : Idle (w / 2 ^ 5) ≡ v = cc in
    subst (Spells w) value (depth, omega arith)

spells_running : (w : ℕ) (v : ThreadWord) → w % 2 ^ 2 ≡ 1 → DepthFits (w / 2 ^ 5)
    → Some (Running (w / 2 ^ 2 % 2 ^ 3) (w / 2 ^ 5)) ≡ Some v → Spells w v
unfolding Spells word_of_thread
spells_running w v state depth h =
    let value : Running (w / 2 ^ 2 % 2 ^ 3) (w / 2 ^ 5) ≡ v = cc in
    subst (Spells w) value ((omega arith, depth), omega arith)

spells_claimed : (w : ℕ) (v : ThreadWord) → w % 2 ^ 2 ≡ 2 → DepthFits (w / 2 ^ 5)
    → Some (Claimed (w / 2 ^ 2 % 2 ^ 3) (w / 2 ^ 5)) ≡ Some v → Spells w v
unfolding Spells word_of_thread
spells_claimed w v state depth h =
    let value : Claimed (w / 2 ^ 2 % 2 ^ 3) (w / 2 ^ 5) ≡ v = cc in
    subst (Spells w) value ((omega arith, depth), omega arith)

spells_state : (w : ℕ) (v : ThreadWord) → DepthFits (w / 2 ^ 5) → state_of (w % 2 ^ 2) (w / 2 ^ 2 % 2 ^ 3) (w / 2 ^ 5) ≡ Some v → Spells w v
spells_state w v depth h =
    chosen (w % 2 ^ 2 == 0 && w / 2 ^ 2 % 2 ^ 3 == 0) _ _ (Some v) h
    (λ e f. let p = and_parts (w % 2 ^ 2 == 0) (w / 2 ^ 2 % 2 ^ 3 == 0) e in
    spells_idle w v (eqb-true (w % 2 ^ 2) 0 p.0) (eqb-true (w / 2 ^ 2 % 2 ^ 3) 0 p.1) depth f)
    (λ _ h1. chosen (w % 2 ^ 2 == 1) _ _ (Some v) h1
    (λ e f. spells_running w v (eqb-true (w % 2 ^ 2) 1 e) depth f)
    (λ _ h2. chosen (w % 2 ^ 2 == 2) _ _ (Some v) h2
    (λ e f. spells_claimed w v (eqb-true (w % 2 ^ 2) 2 e) depth f)
    (λ _ f. absurd (cc))))

spells : (w : ℕ) (v : ThreadWord) → thread_of_word w ≡ Some v → Spells w v
unfolding thread_of_word
spells w v h =
    chosen (nat_le 1 (w / 2 ^ 5) && nat_le (w / 2 ^ 5) 16) _ _ (Some v) h
    (λ e f. let p = and_parts (nat_le 1 (w / 2 ^ 5)) (nat_le (w / 2 ^ 5) 16) e in
    spells_state w v (leb-true 1 (w / 2 ^ 5) p.0, leb-true (w / 2 ^ 5) 16 p.1) f)
    (λ _ f. absurd (cc))

small : (v : ThreadWord) → ThreadFits v → word_of_thread v < 2 ^ 64
unfolding word_of_thread
small (Idle d) h = omega (arith, h.1)
small (Running c d) h = let last : d ≤ 16 = h.1.1 in omega (arith, h.0)
small (Claimed c d) h = let last : d ≤ 16 = h.1.1 in omega (arith, h.0)

pub spelling : IsOneSpelling ThreadFits word_of_thread thread_of_word
unfolding Spells
spelling = record { reads = reads; spells = spells; small = small }

-- what `unpack` says of the value read from a word
pub thread_reads : (o : Option ThreadWord) (w : ℕ) → o ≡ thread_of_word w
    → (v : ThreadWord) → ThreadFits v → word_of_thread v ≡ w → o ≡ Some v
thread_reads = spelling_reads spelling

pub thread_spells : (o : Option ThreadWord) (w : ℕ) → o ≡ thread_of_word w → IfSome o (λ v. ThreadFits v × (word_of_thread v ≡ w))
thread_spells = spelling_spells spelling
