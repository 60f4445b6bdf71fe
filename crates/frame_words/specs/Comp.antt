use Rattle.std.specs.Prelude.{ℕ, ◌+◌, ◌*◌, ◌/◌, ◌%◌, ◌^◌, ◌<◌, ◌≤◌, ◌&&◌, nat_lt, nat_le, Option, Some, None, if◌then◌else◌}
use Rattle.frame_words.specs.declared.comp_word.CompWord.{CompWord}

-- the liveness number is below 64, and the epoch from 1 to 65,535
abbrev pub CompFits : CompWord → Type 0
CompFits v = (v.number < 64) × (1 ≤ v.epoch) × (v.epoch < 2 ^ 16)

-- the word of a component
unfoldable pub word_of_comp : CompWord → ℕ
word_of_comp v = v.number + 2 ^ 6 * v.epoch

-- the component word of a word
unfoldable pub comp_of_word : ℕ → Option CompWord
comp_of_word w =
    if nat_le 1 (w / 2 ^ 6) && nat_lt (w / 2 ^ 6) (2 ^ 16) then Some (record { number = w % 2 ^ 6; epoch = w / 2 ^ 6 }) else None
