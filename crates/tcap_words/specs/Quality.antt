use Rattle.std.specs.Prelude.{ℕ, ◌+◌, ◌*◌, ◌/◌, ◌%◌, ◌^◌, ◌<◌, ◌≤◌, ◌==◌, ◌&&◌, nat_lt, nat_le, Option, Some, None, if◌then◌else◌}
use Rattle.tcap_words.specs.declared.quality_word.QualityWord.{QualityWord}

-- a quality is from 1 to 2 ^ 24 - 1, and its scheduler below 64
abbrev pub PairFits : Option (ℕ × ℕ) → Type 0
PairFits None = Unit {0}
PairFits (Some p) = (p.0 < 64) × (1 ≤ p.1) × (p.1 < 2 ^ 24)

-- a quality word holds a pair within its ranges, or none
abbrev pub QualityFits : QualityWord → Type 0
QualityFits v = PairFits v.0

-- the word of a pair of a scheduler and a quality
abbrev pub word_of_pair : Option (ℕ × ℕ) → ℕ
word_of_pair None = 0
word_of_pair (Some p) = p.1 + 2 ^ 24 * p.0

-- the word of a quality
unfoldable pub word_of_quality : QualityWord → ℕ
word_of_quality v = word_of_pair v.0

-- the quality word of a word
unfoldable pub quality_of_word : ℕ → Option QualityWord
quality_of_word w =
    if w == 0 then Some (record { 0 = None })
    else if nat_le 1 (w % 2 ^ 24) && nat_lt (w / 2 ^ 24) 64 then Some (record { 0 = Some (w / 2 ^ 24, w % 2 ^ 24) })
    else None
