-- One spelling for each flush word.
use Rattle.std.proofs.Common.{◌≡◌, ℕ, ◌^◌, ◌<◌, nat_lt, Option, Some, IfSome, refl, subst, arith, lt-ltb, ltb-true}
use Rattle.spk_nums.proofs.{Choices.kept, OneSpelling.spelling_reads, OneSpelling.spelling_spells}
use Rattle.{frame_words.specs.word_of_flush, frame_words.specs.flush_of_word, spk_nums.specs.Spelling.IsOneSpelling}
use Rattle.{frame_words.specs.Flush.FlushFits, frame_words.specs.declared.flush_word.FlushWord.FlushWord}

reads : (v : FlushWord) → FlushFits v → flush_of_word (word_of_flush v) ≡ Some v
unfolding word_of_flush flush_of_word
reads v h = rw (lt-ltb v.stamp (2 ^ 43) h)

-- a flush word within its range, whose word is this one
Spells : ℕ → FlushWord → Type 0
Spells w v = FlushFits v × (word_of_flush v ≡ w)

spells : (w : ℕ) (v : FlushWord) → flush_of_word w ≡ Some v → Spells w v
unfolding Spells word_of_flush flush_of_word
spells w v h =
    let (low, value) = kept (nat_lt w (2 ^ 43)) (record { stamp = w }) v h in
    subst (Spells w) value (ltb-true w (2 ^ 43) low, refl)

small : (v : FlushWord) → FlushFits v → word_of_flush v < 2 ^ 64
unfolding word_of_flush
small v h = omega arith

pub spelling : IsOneSpelling FlushFits word_of_flush flush_of_word
unfolding Spells
spelling = record { reads = reads; spells = spells; small = small }

-- what `unpack` says of the value read from a word
pub flush_reads : (o : Option FlushWord) (w : ℕ) → o ≡ flush_of_word w → (v : FlushWord) → FlushFits v → word_of_flush v ≡ w → o ≡ Some v
flush_reads = spelling_reads spelling

pub flush_spells : (o : Option FlushWord) (w : ℕ) → o ≡ flush_of_word w → IfSome o (λ v. FlushFits v × (word_of_flush v ≡ w))
flush_spells = spelling_spells spelling
