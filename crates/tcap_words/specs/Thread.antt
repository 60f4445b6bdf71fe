use Rattle.std.specs.Prelude.{ℕ, ◌+◌, ◌*◌, ◌/◌, ◌%◌, ◌^◌, ◌<◌, ◌≤◌, ◌==◌, ◌&&◌, nat_le, Option, Some, None, if◌then◌else◌}
use Rattle.tcap_words.specs.declared.thread_word.ThreadWord.{ThreadWord}
use Rattle.tcap_words.specs.declared.thread_word.ThreadWord.TheVariants.{Idle, Running, Claimed}

-- a thread's depth is from 1 to 16
abbrev pub DepthFits : ℕ → Type 0
DepthFits depth = (1 ≤ depth) × (depth ≤ 16)

-- the fields of a thread word are within their ranges
abbrev pub ThreadFits : ThreadWord → Type 0
ThreadFits (Idle depth) = DepthFits depth
ThreadFits (Running core depth) = (core < 8) × DepthFits depth
ThreadFits (Claimed core depth) = (core < 8) × DepthFits depth

-- the word of a thread
unfoldable pub word_of_thread : ThreadWord → ℕ
word_of_thread (Idle depth) = 2 ^ 5 * depth
word_of_thread (Running core depth) = 1 + 2 ^ 2 * core + 2 ^ 5 * depth
word_of_thread (Claimed core depth) = 2 + 2 ^ 2 * core + 2 ^ 5 * depth

-- the thread word of a state, a core and a depth: an idle one names no core
abbrev pub state_of : ℕ → ℕ → ℕ → Option ThreadWord
state_of state core depth =
    if state == 0 && core == 0 then Some (Idle depth)
    else if state == 1 then Some (Running core depth)
    else if state == 2 then Some (Claimed core depth)
    else None

-- the thread word of a word
unfoldable pub thread_of_word : ℕ → Option ThreadWord
thread_of_word w =
    if nat_le 1 (w / 2 ^ 5) && nat_le (w / 2 ^ 5) 16 then state_of (w % 2 ^ 2) (w / 2 ^ 2 % 2 ^ 3) (w / 2 ^ 5)
    else None
