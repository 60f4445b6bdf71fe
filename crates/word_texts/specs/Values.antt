-- The values of words. A word that has no reading is `unknown`; the machine has none.
use Rattle.std.specs.Prelude.{◌++◌, ◌==◌, if◌then◌else◌}
use Rattle.step_views.specs.kernel_history.specs.{ℕ, ℤ, List, [], codes, decimal, Option, Some, None, with_one}
use Rattle.step_views.specs.kernel_history.specs.{FrameKind, Obj, entry_of_word, Entry, frame_of_word, count_of_word, core_of_word}
use Rattle.step_views.specs.kernel_history.specs.{flush_of_word, live_of_word, FrameWord, CountWord, Hold, Unheld, Pinned, Closed, CoreWord}
use Rattle.step_views.specs.kernel_history.specs.{LiveWord, thread_of_word, stack_of_word, head_of_word, quality_of_word, ThreadWord}
use Rattle.step_views.specs.kernel_history.specs.{HeadWord, QualityWord, Word, EntryAt, FrameAt, CountAt, CoreAt, FlushAt, LiveAt, ClockAt}
use Rattle.spk_nums.specs.declared.kinds.FrameKind.TheVariants.{Untyped, User, Kernel}
use Rattle.spk_nums.specs.declared.kinds.Obj.TheVariants.{Blank, Comp, Thread, Tcap}
use Rattle.word_texts.specs.Objects.{object_of, object_text}
use Rattle.{std.specs.Fmt.signed_decimal, spk_nums.specs.Texts.cap_text, frame_words.specs.declared.flush_word.FlushWord.FlushWord}
use Rattle.{tcap_words.specs.declared.stack_word.StackWord.StackWord}

abbrev pub unknown : List ℕ
unknown = codes "unknown"

-- A core that has marked a word.
unfoldable pub marked_words : List ℕ
marked_words = codes ", marked by core "

abbrev pub mark_text : Option ℕ → List ℕ
mark_text None = []
mark_text (Some c) = marked_words ++ decimal c

-- An entry of a node.
abbrev pub read_entry : Entry → List ℕ
read_entry Entry.Free = codes "free"
read_entry (Entry.Held cap) = cap_text cap
read_entry (Entry.Closing by) = with_one (codes "closing by core") by
read_entry (Entry.Quiescing stamp) = codes "removed"

abbrev pub entry_text : Option Entry → List ℕ
entry_text None = unknown
entry_text (Some e) = read_entry e

-- The words of a thread.
abbrev pub read_thread : ThreadWord → List ℕ
read_thread (ThreadWord.Idle depth) = codes "idle"
read_thread (ThreadWord.Running c depth) = with_one (codes "runs on core") c
read_thread (ThreadWord.Claimed c depth) = with_one (codes "claimed by core") c

abbrev pub thread_text : Option ThreadWord → List ℕ
thread_text None = unknown
thread_text (Some t) = read_thread t

abbrev pub stack_place : Option ℕ → List ℕ
stack_place None = codes "none"
stack_place (Some f) = with_one (codes "comp") f

abbrev pub stack_text : Option StackWord → List ℕ
stack_text None = unknown
stack_text (Some w) = stack_place w.0

-- The words of a temporal capability.
abbrev pub head_text : Option HeadWord → List ℕ
head_text None = unknown
head_text (Some w) = decimal w.budget ++ (codes " ticks" ++ mark_text w.mark)

abbrev pub quality_pair : Option (ℕ × ℕ) → List ℕ
quality_pair None = codes "none"
quality_pair (Some p) = decimal p.1 ++ with_one (codes " of") p.0

abbrev pub quality_text : Option QualityWord → List ℕ
quality_text None = unknown
quality_text (Some w) = quality_pair w.0

-- One of the 64 words of a frame, where the frame holds this. Of a component's words, and where there is no object or one is being made,
-- it is told that the word was changed, and no more.
abbrev pub slot_value : Obj → ℕ → ℕ → List ℕ
slot_value Blank i v = codes "changed"
slot_value Comp i v = codes "changed"
slot_value Thread i v = if i == 0 then thread_text (thread_of_word v) else stack_text (stack_of_word v)
slot_value Tcap i v = if i == 0 then head_text (head_of_word v) else quality_text (quality_of_word v)
slot_value object i v = entry_text (entry_of_word v)

-- What a frame is.
abbrev pub kind_text : FrameKind → Obj → List ℕ
kind_text Untyped object = codes "untyped"
kind_text User object = codes "user"
kind_text Kernel object = object_text object

abbrev pub frame_text : Option FrameWord → List ℕ
frame_text None = unknown
frame_text (Some w) = kind_text w.kind w.object ++ mark_text w.mark

-- A count, and who holds it.
unfoldable pub pinned_words : List ℕ
pinned_words = codes ", pinned by core "

unfoldable pub closed_words : List ℕ
closed_words = codes ", closed by core "

abbrev pub hold_text : Hold → List ℕ
hold_text Unheld = []
hold_text (Pinned c) = pinned_words ++ decimal c
hold_text (Closed c) = closed_words ++ decimal c

abbrev pub count_text : Option CountWord → List ℕ
count_text None = unknown
count_text (Some w) = signed_decimal w.count ++ hold_text w.hold

-- Whether a core is inside a call; its last flush; the state of a liveness number.
abbrev pub core_text : Option CoreWord → List ℕ
core_text None = unknown
core_text (Some w) = if w.inside then codes "inside" else codes "outside"

abbrev pub flush_text : Option FlushWord → List ℕ
flush_text None = unknown
flush_text (Some w) = with_one (codes "at") w.stamp

unfoldable pub epoch_words : ℕ → List ℕ
epoch_words epoch = codes "live, epoch " ++ decimal epoch

abbrev pub read_live : LiveWord → List ℕ
read_live LiveWord.Free = codes "free"
read_live (LiveWord.Live epoch frame) = epoch_words epoch
read_live (LiveWord.Closing epoch by) = with_one (codes "closing by core") by
read_live (LiveWord.Dead epoch stamp) = codes "dead"

abbrev pub live_text : Option LiveWord → List ℕ
live_text None = unknown
live_text (Some l) = read_live l

-- The value of a word, where the word of its frame is this.
abbrev pub value_text : ℕ → Word → ℕ → List ℕ
value_text frame (EntryAt f i) v = slot_value (object_of frame) i v
value_text frame (FrameAt f) v = frame_text (frame_of_word v)
value_text frame (CountAt f c) v = count_text (count_of_word v)
value_text frame (CoreAt c) v = core_text (core_of_word v)
value_text frame (FlushAt c) v = flush_text (flush_of_word v)
value_text frame (LiveAt l) v = live_text (live_of_word v)
value_text frame ClockAt v = decimal v
