use Rattle.std.specs.Prelude.{ℕ, ◌^◌, ◌<◌, nat_lt, Option, Some, None, if◌then◌else◌}
use Rattle.frame_words.specs.declared.flush_word.FlushWord.{FlushWord}

-- the stamp is below 2 ^ 43
abbrev pub FlushFits : FlushWord → Type 0
FlushFits v = v.stamp < 2 ^ 43

-- the word of a core's last flush
unfoldable pub word_of_flush : FlushWord → ℕ
word_of_flush v = v.stamp

-- the flush word of a word
unfoldable pub flush_of_word : ℕ → Option FlushWord
flush_of_word w = if nat_lt w (2 ^ 43) then Some (record { stamp = w }) else None
