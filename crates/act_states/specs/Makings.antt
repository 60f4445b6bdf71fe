-- The act that makes an object in a blank kernel frame.
use Rattle.std.specs.Prelude.{◌+◌, ◌-◌, ◌*◌, ◌<◌, ◌≤◌, ◌∷◌, if◌then◌else◌}
use Rattle.stage_tcap.specs.{ℕ, ltb as nat_lt, Bool, true, false, List, [], Some, None, EntryAt, FrameAt, Shape, Move, LoadOf, CompareOf}
use Rattle.stage_tcap.specs.{StoreOf, FrameKind, Obj}
use Rattle.stage_sweep.specs.frame_words.specs.{Frame.word_of_frame, declared.frame_word.FrameWord.FrameWord}
use Rattle.act_states.specs.{Fills.FillFits, Fills.fill_move, declared.fills.Fill.Fill, Objects.object_obj, Objects.object_word}
use Rattle.act_states.specs.{Objects.last_word, Objects.counts_of, Objects.ObjectFits, declared.objects.NewObject.NewObject}
use Rattle.act_states.specs.{declared.makings.MakingAt.MakingAt, declared.makings.MakingAt.TheVariants.Load}
use Rattle.act_states.specs.{declared.makings.MakingAt.TheVariants.Mark, declared.makings.MakingAt.TheVariants.Store}
use Rattle.act_states.specs.{declared.makings.MakingAt.TheVariants.Fill as fill_at, declared.makings.Making.Making, declared.work.Tail.Tail}
use Rattle.act_states.specs.{declared.work.Tail.TheVariants.Nothing, declared.work.Tail.TheVariants.Unmark, Keeping.Keeping}
use Rattle.act_states.specs.{Keeping.KeepsWord}

-- the word of a blank frame that a core has marked, and that of a frame that holds an object
abbrev pub marked : ℕ → FrameWord
marked core = record { kind = FrameKind.Kernel; object = Obj.Blank; mark = Some core }

abbrev pub made : NewObject → FrameWord
made object = record { kind = FrameKind.Kernel; object = object_obj object; mark = None }

-- what it names is of the machine
abbrev pub MakingAtFits : NewObject → MakingAt → Type 0
MakingAtFits object Load = Unit {0}
MakingAtFits object (Mark word) = Unit {0}
MakingAtFits object (Store word entry) = entry ≤ last_word object
MakingAtFits object (fill_at word) = Unit {0}

pub record MakingFits (s : Shape) (m : Making) : Type 0 where
  pub frame : m.frame < s.frames
  pub core : m.core < s.cores
  pub object : ObjectFits s m.object
  pub fill : FillFits s m.fill
  pub at : MakingAtFits m.object m.at

-- its steps
abbrev pub making_at : ℕ → NewObject → ℕ → Fill → MakingAt → Move
making_at f object core fill Load = LoadOf (FrameAt f)
making_at f object core fill (Mark word) = CompareOf (FrameAt f) word (word_of_frame (marked core))
making_at f object core fill (Store word entry) = StoreOf (EntryAt f entry) (object_word object entry)
making_at f object core fill (fill_at word) = fill_move fill

abbrev pub making_move : Making → Move
making_move m = making_at m.frame m.object m.core m.fill m.at

-- where it stands after the store of a word
abbrev pub stored : NewObject → ℕ → ℕ → MakingAt
stored object word entry = if nat_lt entry (last_word object) then Store word (entry + 1) else fill_at word

-- whether the frame is marked, and what a refused call has then still to store: the frame's word as it was found
abbrev pub is_marked : MakingAt → Bool
is_marked Load = false
is_marked (Mark word) = false
is_marked (Store word entry) = true
is_marked (fill_at word) = true

abbrev pub undo_at : ℕ → MakingAt → Tail
undo_at f Load = Nothing
undo_at f (Mark word) = Nothing
undo_at f (Store word entry) = Unmark f word
undo_at f (fill_at word) = Unmark f word

-- the frame is marked, and stands for its word as it was found
abbrev pub making_keeps : ℕ → MakingAt → List Keeping
making_keeps f Load = []
making_keeps f (Mark word) = []
making_keeps f (Store word entry) = KeepsWord (FrameAt f) word ∷ []
making_keeps f (fill_at word) = KeepsWord (FrameAt f) word ∷ []

-- whether the next step is the compare of the target
abbrev pub is_filling : MakingAt → Bool
is_filling Load = false
is_filling (Mark word) = false
is_filling (Store word entry) = false
is_filling (fill_at word) = true

-- the steps that are still to come, with the acquiring and the commit of the counts where the frame is not marked yet
abbrev pub making_left : NewObject → MakingAt → ℕ
making_left object Load = 3 * counts_of object + last_word object + 5
making_left object (Mark word) = 3 * counts_of object + last_word object + 4
making_left object (Store word entry) = last_word object - entry + 3
making_left object (fill_at word) = 2
