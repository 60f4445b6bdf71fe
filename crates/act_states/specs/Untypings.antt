-- The act that makes a user frame or a kernel frame untyped again.
use Rattle.std.specs.Prelude.{◌+◌, ◌-◌, ◌*◌, ◌<◌, ◌≤◌, ◌≡◌, ◌∷◌, if◌then◌else◌}
use Rattle.stage_tcap.specs.{ℕ, negsuc, ltb as nat_lt, Bool, true, false, Option, Some, None, IfSome, List, [], length, FrameKind, Obj}
use Rattle.stage_tcap.specs.{StageEnd, FrameAt, ClockAt, Shape, Move, LoadOf, CompareOf, StoreOf, AddOf}
use Rattle.stage_sweep.specs.{counters_of, loads_of, SweepFits, sweep_move, swept_of, ThawFits, thaw_of}
use Rattle.stage_sweep.specs.frame_words.specs.{FrameFits, word_of_frame}
use Rattle.stage_sweep.specs.spk_nums.specs.declared.steps.StageEnd.TheVariants.{Going, Decided, Done, Refuse}
use Rattle.stage_sweep.specs.stage_quiet.specs.declared.quiet.Quiet.TheVariants.{AtCore, AtFlush}
use Rattle.stage_sweep.specs.{Release.thaw_move, Release.thaw_end, Release.thaw_after, declared.empty.Owned.Owned}
use Rattle.stage_sweep.specs.{declared.sweep.Sweep.Sweep, declared.sweep.SweepAt.SweepAt, declared.sweep.Swept.Swept}
use Rattle.act_states.specs.{declared.untypings.UntypingAt.UntypingAt, declared.untypings.UntypingAt.TheVariants.Load}
use Rattle.act_states.specs.{declared.untypings.UntypingAt.TheVariants.Mark, declared.untypings.UntypingAt.TheVariants.Sweep as sweep_at}
use Rattle.act_states.specs.{declared.untypings.UntypingAt.TheVariants.Draw, declared.untypings.Untyping.Untyping}
use Rattle.act_states.specs.{declared.untypings.Release.Release, declared.work.Due.Due, declared.work.Tail.Tail}
use Rattle.act_states.specs.{declared.work.Tail.TheVariants.Nothing, declared.work.Tail.TheVariants.Release as release_tail}
use Rattle.act_states.specs.{Keeping.Keeping, Keeping.KeepsWord, Keeping.KeepsCounters}
use Rattle.{stage_sweep.specs.frame_words.specs.declared.frame_word.FrameWord.FrameWord}
use Rattle.{stage_sweep.specs.stage_quiet.specs.declared.quiet.Quiet.Quiet, stage_sweep.specs.declared.thaw.Thaw.Thaw}

-- a frame that is this, and that a core has marked
abbrev pub held_by : ℕ → FrameKind → Obj → FrameWord
held_by core k o = record { kind = k; object = o; mark = Some core }

-- the references that an object has itself: at most two of a component, to its table and its pages, and one of a thread
abbrev pub OwnedBy : Obj → Owned → Type 0
OwnedBy Obj.Comp o = Unit {0}
OwnedBy Obj.Thread o = o.second ≡ None
OwnedBy object o = (o.first ≡ None) × (o.second ≡ None)

abbrev pub owned_most : Obj → ℕ
owned_most Obj.Comp = 2
owned_most Obj.Thread = 1
owned_most object = 0

-- they are to frames of the machine
pub record OwnedFits (frames : ℕ) (o : Owned) : Type 0 where
  pub first : IfSome o.first (λ f. f < frames)
  pub second : IfSome o.second (λ f. f < frames)

-- a scan is by the core that sweeps, and a word of the object is one that is looked at
abbrev pub SweepAtFits : ℕ → Obj → SweepAt → Type 0
SweepAtFits core object SweepAt.Load = Unit {0}
SweepAtFits core object (SweepAt.Compare count stamp) = Unit {0}
SweepAtFits core object (SweepAt.Scan (AtCore stamp by at page)) = by ≡ core
SweepAtFits core object (SweepAt.Scan (AtFlush stamp at)) = Unit {0}
SweepAtFits core object (SweepAt.Empty entry) = entry < loads_of object

-- a sweep is on words of the machine, has frozen no more counters than the frame has, and knows what such an object may name
pub record SweepsFrame (s : Shape) (w : Sweep) : Type 0 where
  pub fits : SweepFits s w
  pub kept : length w.kept ≤ counters_of s
  pub owned : OwnedFits s.frames w.owned
  pub object : OwnedBy w.word.object w.owned
  pub at : SweepAtFits w.core w.word.object w.at

-- so has a sweep that is over
pub record SweptFits (s : Shape) (w : Swept) : Type 0 where
  pub frame : w.frame < s.frames
  pub kept : length w.words ≤ counters_of s
  pub owned : OwnedFits s.frames w.owned

-- what an untyping names is of the machine
abbrev pub UntypingAtFits : Shape → UntypingAt → Type 0
UntypingAtFits s Load = Unit {0}
UntypingAtFits s (Mark word v) = FrameFits v
UntypingAtFits s (sweep_at word w) = SweepsFrame s w
UntypingAtFits s (Draw word w) = SweptFits s w

pub record UntypingFits (s : Shape) (m : Untyping) : Type 0 where
  pub frame : m.frame < s.frames
  pub core : m.core < s.cores
  pub at : UntypingAtFits s m.at

-- its steps: the frame's word is loaded and marked, its counters and its object are swept, and a stamp is drawn
abbrev pub untyping_at : ℕ → ℕ → UntypingAt → Move
untyping_at f core Load = LoadOf (FrameAt f)
untyping_at f core (Mark word v) = CompareOf (FrameAt f) word (word_of_frame (held_by core v.kind v.object))
untyping_at f core (sweep_at word w) = sweep_move w
untyping_at f core (Draw word w) = AddOf ClockAt 1

abbrev pub untyping_move : Untyping → Move
untyping_move m = untyping_at m.frame m.core m.at

-- whether the next step draws the stamp
abbrev pub is_drawing : UntypingAt → Bool
is_drawing Load = false
is_drawing (Mark word v) = false
is_drawing (sweep_at word w) = false
is_drawing (Draw word w) = true

-- the counts of the references that the object has itself, which are released with it, from when it is known to be empty
abbrev pub released_one : ℕ → Due
released_one f = record { frame = f; change = negsuc 0 }

abbrev pub released_dues : Option ℕ → Option ℕ → List Due
released_dues None None = []
released_dues None (Some g) = released_one g ∷ []
released_dues (Some f) None = released_one f ∷ []
released_dues (Some f) (Some g) = released_one f ∷ released_one g ∷ []

abbrev pub owned_dues : Owned → List Due
owned_dues o = released_dues o.first o.second

abbrev pub untyping_dues : UntypingAt → List Due
untyping_dues Load = []
untyping_dues (Mark word v) = []
untyping_dues (sweep_at word w) = []
untyping_dues (Draw word w) = owned_dues w.owned

-- what is then still to be stored: each frozen counter, cleared or as it was found, and then the frame's word
abbrev pub release_of : ℕ → ℕ → Swept → Bool → Release
release_of f word w clear = record { frame = f; word = word; thaw = thaw_of w clear }

pub record ReleaseFits (s : Shape) (x : Release) : Type 0 where
  pub frame : x.frame < s.frames
  pub thaw : IfSome x.thaw (ThawFits s)

abbrev pub release_at : ℕ → ℕ → Option Thaw → Move
release_at f word None = StoreOf (FrameAt f) word
release_at f word (Some t) = thaw_move t

abbrev pub release_move : Release → Move
release_move x = release_at x.frame x.word x.thaw

-- the release of counters that goes on, if it does, after a step that leads to this
abbrev pub thaw_left_by : Thaw → StageEnd (Unit {0}) → Option Thaw
thaw_left_by t Going = Some t
thaw_left_by t (Decided r) = None
thaw_left_by t (Done x) = None
thaw_left_by t (Refuse r) = None

-- what is still to be stored after a store: after the frame's word nothing
abbrev pub after_store : Release → Option Thaw → Tail
after_store x None = Nothing
after_store x (Some t) = release_tail (record x { thaw = thaw_left_by (thaw_after t) (thaw_end t) })

abbrev pub release_after : Release → Tail
release_after x = after_store x x.thaw

-- the stores that are still to come
abbrev pub thaw_left : Option Thaw → ℕ
thaw_left None = 0
thaw_left (Some t) = length t.words - t.at

abbrev pub release_left : Release → ℕ
release_left x = 1 + thaw_left x.thaw

-- what a refused call has still to store: the frozen counters and the frame's word as they were found, where the frame is marked
abbrev pub untyping_undo : ℕ → UntypingAt → Tail
untyping_undo f Load = Nothing
untyping_undo f (Mark word v) = Nothing
untyping_undo f (sweep_at word w) = release_tail (release_of f word (swept_of w) false)
untyping_undo f (Draw word w) = release_tail (release_of f word w false)

-- until then the frame is marked, and so are its frozen counters: these stand for what is to be stored
abbrev pub release_keeps : Release → List Keeping
release_keeps x = KeepsWord (FrameAt x.frame) x.word ∷ KeepsCounters x.thaw ∷ []

abbrev pub untyping_keeps : ℕ → UntypingAt → List Keeping
untyping_keeps f Load = []
untyping_keeps f (Mark word v) = []
untyping_keeps f (sweep_at word w) = release_keeps (release_of f word (swept_of w) false)
untyping_keeps f (Draw word w) = release_keeps (release_of f word w false)

-- the loads of a scan that are still to come, on so many cores: of the other cores' words, and then of all flush words
abbrev pub others_left : ℕ → ℕ → ℕ → ℕ
others_left cores core at = if nat_lt at core then cores - at - 1 else cores - at

abbrev pub quiet_left : ℕ → Quiet → ℕ
quiet_left cores (AtCore stamp core at page) = others_left cores core at + (if page then cores else 0)
quiet_left cores (AtFlush stamp at) = cores - at

-- the steps of a sweep that are still to come, with the acquiring and the commit of the counts that the object releases; a frame has at
-- most as many counters as there are cores
abbrev pub object_left : Obj → ℕ
object_left object = loads_of object + 3 * owned_most object

abbrev pub sweep_left : ℕ → Obj → ℕ → SweepAt → ℕ
sweep_left cores object kept SweepAt.Load = 2 * (cores - kept) + (2 * cores - 1) + object_left object
sweep_left cores object kept (SweepAt.Compare count stamp) = 2 * (cores - kept) - 1 + (2 * cores - 1) + object_left object
sweep_left cores object kept (SweepAt.Scan q) = quiet_left cores q + object_left object
sweep_left cores object kept (SweepAt.Empty entry) = loads_of object - entry + 3 * owned_most object

-- the steps of an untyping that are still to come, with those of what it leaves to be stored
abbrev pub untyping_left : ℕ → UntypingAt → ℕ
untyping_left cores Load = 67 + 5 * cores
untyping_left cores (Mark word v) = 66 + 5 * cores
untyping_left cores (sweep_at word w) = sweep_left cores w.word.object (length w.kept) w.at + cores + 2
untyping_left cores (Draw word w) = 2 + length w.words
