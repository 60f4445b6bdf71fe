use Rattle.std.specs.Prelude.{ℕ, ◌+◌, ◌*◌, ◌/◌, ◌%◌, ◌^◌, ◌<◌, ◌==◌, nat_lt, Option, Some, None, if◌then◌else◌}
use Rattle.frame_words.specs.declared.core_word.CoreWord.{CoreWord}

-- the stamp is below 2 ^ 43
abbrev pub CoreFits : CoreWord → Type 0
CoreFits v = v.stamp < 2 ^ 43

-- the word of a core
unfoldable pub word_of_core : CoreWord → ℕ
word_of_core v = (if v.inside then 1 else 0) + 2 * v.stamp

-- the core word of a word
unfoldable pub core_of_word : ℕ → Option CoreWord
core_of_word w = if nat_lt (w / 2) (2 ^ 43) then Some (record { inside = w % 2 == 1; stamp = w / 2 }) else None
