use Rattle.std.specs.Prelude.{ℕ, ◌+◌, ◌*◌, ◌/◌, ◌%◌, ◌^◌, ◌<◌, nat_lt, Option, Some, None, if◌then◌else◌}
use Rattle.spk_nums.specs.{Marks.MarkFits, Marks.number_of_mark, Marks.mark_of_number, declared.kinds.FrameKind.FrameKind}
use Rattle.frame_words.specs.FrameKinds.{number_of_frame_kind, frame_kind_of_number, number_of_object, object_of_number, end_of_object}
use Rattle.{spk_nums.specs.declared.kinds.Obj.Obj, frame_words.specs.declared.frame_word.FrameWord.FrameWord}

-- the mark is that of a core, and only a kernel frame holds an object
abbrev pub FrameFits : FrameWord → Type 0
FrameFits v = MarkFits v.mark × (number_of_object v.object < end_of_object v.kind)

-- the word of a frame
unfoldable pub word_of_frame : FrameWord → ℕ
word_of_frame v = number_of_frame_kind v.kind + 2 ^ 2 * number_of_object v.object + 2 ^ 6 * number_of_mark v.mark

-- the frame word of these fields, where each is within its range
abbrev pub frame_of : Option FrameKind → Option Obj → Option (Option ℕ) → Option FrameWord
frame_of (Some kind) (Some object) (Some mark) =
    if nat_lt (number_of_object object) (end_of_object kind) then Some (record { kind = kind; object = object; mark = mark }) else None
frame_of _ _ _ = None

-- the frame word of a word
unfoldable pub frame_of_word : ℕ → Option FrameWord
frame_of_word w = frame_of (frame_kind_of_number (w % 2 ^ 2)) (object_of_number (w / 2 ^ 2 % 2 ^ 4)) (mark_of_number (w / 2 ^ 6))
