use Rattle.std.specs.Prelude.{ℕ, ◌+◌, ◌*◌, ◌/◌, ◌%◌, ◌^◌, ◌<◌, nat_lt, Option, Some, None, if◌then◌else◌}
use Rattle.spk_nums.specs.Marks.{MarkFits, number_of_mark, mark_of_number}
use Rattle.tcap_words.specs.declared.head_word.HeadWord.{HeadWord}

-- the budget has 32 bits, the mark is that of a core, and the version is below 2 ^ 28
abbrev pub HeadFits : HeadWord → Type 0
HeadFits v = (v.budget < 2 ^ 32) × MarkFits v.mark × (v.version < 2 ^ 28)

-- the word of a temporal capability's head
unfoldable pub word_of_head : HeadWord → ℕ
word_of_head v = v.budget + 2 ^ 32 * number_of_mark v.mark + 2 ^ 36 * v.version

-- the head word of these fields, where each is within its range
abbrev pub head_of : ℕ → Option (Option ℕ) → ℕ → Option HeadWord
head_of budget None version = None
head_of budget (Some mark) version = if nat_lt version (2 ^ 28)
    then Some (record { budget = budget; mark = mark; version = version }) else None

-- the head word of a word
unfoldable pub head_of_word : ℕ → Option HeadWord
head_of_word w = head_of (w % 2 ^ 32) (mark_of_number (w / 2 ^ 32 % 2 ^ 4)) (w / 2 ^ 36)
