use Rattle.std.specs.Prelude.{ℕ, ◌+◌, ◌*◌, ◌/◌, ◌%◌, ◌^◌, ◌<◌, ◌≤◌, ◌==◌, ◌&&◌, nat_lt, nat_le, Option, Some, None, if◌then◌else◌}
use Rattle.frame_words.specs.declared.live_word.LiveWord.{LiveWord}
use Rattle.frame_words.specs.declared.live_word.LiveWord.TheVariants.{Free, Live, Closing, Dead}

-- the fields of a liveness word are within their ranges; the epoch of a live or a dead number is at least 1
abbrev pub LiveFits : LiveWord → Type 0
LiveFits Free = Unit {0}
LiveFits (Live epoch frame) = (1 ≤ epoch) × (epoch < 2 ^ 16) × (frame < 512)
LiveFits (Closing epoch by) = (epoch < 2 ^ 16) × (by < 8)
LiveFits (Dead epoch stamp) = (1 ≤ epoch) × (epoch < 2 ^ 16) × (1 ≤ stamp) × (stamp < 2 ^ 43)

-- the word of a liveness number
unfoldable pub word_of_live : LiveWord → ℕ
word_of_live Free = 0
word_of_live (Live epoch frame) = 1 + 2 ^ 2 * epoch + 2 ^ 18 * frame
word_of_live (Closing epoch by) = 2 + 2 ^ 2 * epoch + 2 ^ 27 * by
word_of_live (Dead epoch stamp) = 3 + 2 ^ 2 * epoch + 2 ^ 18 * stamp

-- the live number of this epoch, whose component is this frame
abbrev pub live_of : ℕ → ℕ → Option LiveWord
live_of epoch frame = if nat_le 1 epoch && nat_lt frame 512 then Some (Live epoch frame) else None

-- the number of this epoch that this core is closing
abbrev pub closing_of : ℕ → ℕ → Option LiveWord
closing_of epoch by = if nat_lt by 8 then Some (Closing epoch by) else None

-- the number that died in this epoch with this stamp
abbrev pub dead_of : ℕ → ℕ → Option LiveWord
dead_of epoch stamp = if nat_le 1 epoch && (nat_le 1 stamp && nat_lt stamp (2 ^ 43)) then Some (Dead epoch stamp) else None

-- the liveness word of a word
unfoldable pub live_of_word : ℕ → Option LiveWord
live_of_word w =
    if w == 0 then Some Free
    else if w % 2 ^ 2 == 1 then live_of (w / 2 ^ 2 % 2 ^ 16) (w / 2 ^ 18)
    else if w % 2 ^ 2 == 2 && w / 2 ^ 18 % 2 ^ 9 == 0 then closing_of (w / 2 ^ 2 % 2 ^ 16) (w / 2 ^ 27)
    else if w % 2 ^ 2 == 3 then dead_of (w / 2 ^ 2 % 2 ^ 16) (w / 2 ^ 18)
    else None
