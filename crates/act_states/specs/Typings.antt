-- The act that makes an untyped frame a user frame or a blank kernel frame.
use Rattle.std.specs.Prelude.{◌==◌, ◌<◌, if◌then◌else◌}
use Rattle.stage_tcap.specs.{ℕ, Bool, true, false, Option, Some, None, FrameKind, Blank, Nothing as nothing}
use Rattle.stage_tcap.specs.{FrameAt, Shape, Move, LoadOf, CompareOf}
use Rattle.stage_sweep.specs.frame_words.specs.{word_of_frame, frame_of_word}
use Rattle.stage_sweep.specs.frame_words.specs.declared.frame_word.FrameWord.{FrameWord}
use Rattle.act_states.specs.{declared.refusals.Refusal.TheVariants.Raced, declared.refusals.Refusal.TheVariants.Busy}
use Rattle.act_states.specs.{declared.refusals.Refusal.TheVariants.FrameKind as wrong_kind, declared.typings.Typing.Typing}
use Rattle.act_states.specs.{declared.typings.TypingAt.TypingAt, declared.typings.TypingAt.TheVariants.Load}
use Rattle.act_states.specs.{declared.typings.TypingAt.TheVariants.Compare, declared.work.Act.TheVariants.Retype as type_act}
use Rattle.act_states.specs.{declared.work.Work.TheVariants.Act, declared.work.Tail.TheVariants.Nothing, declared.work.WorkStep.WorkStep}
use Rattle.act_states.specs.{declared.work.WorkStep.TheVariants.Goes, declared.work.WorkStep.TheVariants.Answers, WorkSteps.refuse}

-- what a frame becomes: of this kind, without an object
abbrev pub typed : FrameKind → FrameWord
typed k = record { kind = k; object = Blank; mark = None }

-- it names a frame of the machine
abbrev pub TypingFits : Shape → Typing → Type 0
TypingFits s y = y.frame < s.frames

-- the frame's word is loaded, and compared with the word found
abbrev pub typing_at : ℕ → FrameKind → TypingAt → Move
typing_at f k Load = LoadOf (FrameAt f)
typing_at f k (Compare word) = CompareOf (FrameAt f) word (word_of_frame (typed k))

abbrev pub typing_move : Typing → Move
typing_move y = typing_at y.frame y.kind y.at

-- what a load leads to: a frame that a core has marked is busy, and one that is not untyped is of another kind
abbrev pub meets_kind : Typing → ℕ → FrameKind → WorkStep
meets_kind y word FrameKind.Untyped = Goes (Act (type_act (record { frame = y.frame; kind = y.kind; at = Compare word })))
meets_kind y word FrameKind.User = refuse wrong_kind
meets_kind y word FrameKind.Kernel = refuse wrong_kind

abbrev pub meets_frame : Typing → ℕ → FrameKind → Option ℕ → WorkStep
meets_frame y word k None = meets_kind y word k
meets_frame y word k (Some d) = refuse (Busy d)

abbrev pub meets_word : Typing → ℕ → Option FrameWord → WorkStep
meets_word y word None = refuse Raced
meets_word y word (Some v) = meets_frame y word v.kind v.mark

-- the compare is won or lost
abbrev pub typed_if : Bool → WorkStep
typed_if equal = if equal then Answers nothing None Nothing else refuse Raced

abbrev pub took_typing_at : Typing → TypingAt → ℕ → WorkStep
took_typing_at y Load found = meets_word y found (frame_of_word found)
took_typing_at y (Compare word) found = typed_if (found == word)

abbrev pub took_typing : Typing → ℕ → WorkStep
took_typing y found = took_typing_at y y.at found

-- whether the next step is the compare
abbrev pub is_typing : TypingAt → Bool
is_typing Load = false
is_typing (Compare word) = true

-- the steps that are still to come
abbrev pub typing_left : TypingAt → ℕ
typing_left Load = 2
typing_left (Compare word) = 1
