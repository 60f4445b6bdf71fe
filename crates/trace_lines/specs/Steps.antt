-- A step of a trace as it is written, and the lines of its events.
use Rattle.std.specs.Prelude.{◌==◌, if◌then◌else◌, ◌∷◌, ◌++◌}
use Rattle.step_views.specs.kernel_history.specs.{ℕ, false, List, [], Option, Some, None, codes, decimal}
use Rattle.step_views.specs.kernel_history.specs.{with_one, reply_text, Call, Reply, Word, EntryAt, FrameAt, CountAt, CoreAt, FlushAt}
use Rattle.step_views.specs.kernel_history.specs.{LiveAt, ClockAt, Move, LoadOf, CompareOf, StoreOf, AddOf, word_of, left_of, Step}
use Rattle.{std.specs.Fmt.digits, spk_nums.specs.Texts.with_two, spk_nums.specs.Texts.call_text}

-- A value: its hexadecimal digits, without leading zeros.
abbrev pub value_text : ℕ → List ℕ
value_text n = digits 16 false n

-- A word: its kind, then its numbers.
abbrev pub word_text : Word → List ℕ
word_text (EntryAt f i) = with_two (codes "entry") f i
word_text (FrameAt f) = with_one (codes "frame") f
word_text (CountAt f c) = with_two (codes "count") f c
word_text (CoreAt c) = with_one (codes "core") c
word_text (FlushAt c) = with_one (codes "flush") c
word_text (LiveAt l) = with_one (codes "live") l
word_text ClockAt = codes "clock"

-- An operation.
abbrev pub move_text : Move → List ℕ
move_text (LoadOf w) = codes " load "
move_text (CompareOf w expected new) = codes " compare "
move_text (StoreOf w new) = codes " store "
move_text (AddOf w by) = codes " add "

-- What was left in a word, where it is not what was found there.
abbrev pub left_text : ℕ → ℕ → List ℕ
left_text found left = if found == left then [] else codes " > " ++ value_text left

-- A step of a core on a word: the core, the operation, the word, what was found there, and what was left where that is another value.
abbrev pub written_step : ℕ → List ℕ → Word → ℕ → ℕ → List ℕ
written_step core op word found left =
    decimal core ++ op ++ word_text word ++ codes ": " ++ value_text found ++ left_text found left

abbrev pub step_text : Step → List ℕ
step_text e = written_step e.core (move_text e.move) (word_of e.move) e.found (left_of e.move e.found)

-- The line of each event of a core that there is: the call that it enters, the reply that is decided, its return.
abbrev pub enter_line : ℕ → Option Call → List (List ℕ)
enter_line core None = []
enter_line core (Some call) = (with_one (codes "enter") core ++ codes " " ++ call_text call) ∷ []

abbrev pub decide_line : ℕ → Option Reply → List (List ℕ)
decide_line core None = []
decide_line core (Some reply) = (with_one (codes "decide") core ++ codes " " ++ reply_text reply) ∷ []

abbrev pub return_line : ℕ → Option Reply → List (List ℕ)
return_line core None = []
return_line core (Some reply) = with_one (codes "return") core ∷ []

-- The lines of a step's events, in order.
abbrev pub lines_at : ℕ → Option Call → Option Reply → Option Reply → List (List ℕ)
lines_at core enters decides returns = enter_line core enters ++ (decide_line core decides ++ return_line core returns)

abbrev pub event_lines : Step → List (List ℕ)
event_lines e = lines_at e.core e.enters e.decides e.returns
