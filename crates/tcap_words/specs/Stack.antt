use Rattle.std.specs.Prelude.{ℕ, ◌+◌, ◌*◌, ◌/◌, ◌%◌, ◌<◌, ◌==◌, ◌&&◌, nat_lt, Option, Some, None, if◌then◌else◌}
use Rattle.tcap_words.specs.declared.stack_word.StackWord.{StackWord}

-- a frame is below 512
abbrev pub PlaceFits : Option ℕ → Type 0
PlaceFits None = Unit {0}
PlaceFits (Some frame) = frame < 512

-- a stack word holds a component's frame, or none
abbrev pub StackFits : StackWord → Type 0
StackFits v = PlaceFits v.0

-- the word of a place on a stack
abbrev pub word_of_place : Option ℕ → ℕ
word_of_place None = 0
word_of_place (Some frame) = 1 + 2 * frame

-- the word of a place on a thread's stack
unfoldable pub word_of_stack : StackWord → ℕ
word_of_stack v = word_of_place v.0

-- the stack word of a word
unfoldable pub stack_of_word : ℕ → Option StackWord
stack_of_word w =
    if w == 0 then Some (record { 0 = None })
    else if w % 2 == 1 && nat_lt (w / 2) 512 then Some (record { 0 = Some (w / 2) })
    else None
