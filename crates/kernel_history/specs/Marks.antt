-- The marks that cores set in words: a core's mark keeps a word for it, until that core gives the word back.
use Rattle.std.specs.Prelude.{◌==◌, if◌then◌else◌}
use Rattle.kernel_rules.specs.{ℕ, Option, Some, None, Object, Blank, Table, Leaf, Pages, Pleaf, Comp, Thread, Tcap}
use Rattle.kernel_rules.specs.{Frame, Untyped, User, Kernel}
use Rattle.word_map.specs.{EntryAt, FrameAt, CountAt, CoreAt, FlushAt, LiveAt, ClockAt}
use Rattle.frame_words.specs.{frame_of_word, count_of_word, live_of_word}
use Rattle.tcap_words.specs.{head_of_word, thread_of_word}
use Rattle.entry_words.specs.{declared.entry.Entry.Entry, EntryWord.entry_of_word}
use Rattle.frame_words.specs.{declared.frame_word.FrameWord.FrameWord, declared.count_word.CountWord.CountWord}
use Rattle.frame_words.specs.{declared.count_word.Hold.Hold, declared.count_word.Hold.TheVariants.Unheld}
use Rattle.frame_words.specs.{declared.count_word.Hold.TheVariants.Pinned, declared.count_word.Hold.TheVariants.Closed}
use Rattle.tcap_words.specs.declared.thread_word.ThreadWord.TheVariants.{Idle, Running, Claimed}
use Rattle.{frame_words.specs.declared.live_word.LiveWord.LiveWord, tcap_words.specs.declared.head_word.HeadWord.HeadWord}
use Rattle.{tcap_words.specs.declared.thread_word.ThreadWord.ThreadWord, word_map.specs.Word.Word, kernel_rules.specs.State.State}

-- The core that is closing an entry.
abbrev pub entry_mark : Option Entry → Option ℕ
entry_mark None = None
entry_mark (Some Entry.Free) = None
entry_mark (Some (Entry.Held k)) = None
entry_mark (Some (Entry.Closing d)) = Some d
entry_mark (Some (Entry.Quiescing stamp)) = None

-- The core that has marked a frame's word.
abbrev pub frame_mark : Option FrameWord → Option ℕ
frame_mark None = None
frame_mark (Some v) = v.mark

-- The core that holds a count: it has pinned or closed it.
abbrev pub hold_mark : Hold → Option ℕ
hold_mark Unheld = None
hold_mark (Pinned d) = Some d
hold_mark (Closed d) = Some d

abbrev pub count_mark : Option CountWord → Option ℕ
count_mark None = None
count_mark (Some v) = hold_mark v.hold

-- The core that is closing a liveness number.
abbrev pub live_mark : Option LiveWord → Option ℕ
live_mark None = None
live_mark (Some LiveWord.Free) = None
live_mark (Some (LiveWord.Live epoch f)) = None
live_mark (Some (LiveWord.Closing epoch d)) = Some d
live_mark (Some (LiveWord.Dead epoch stamp)) = None

-- The core that has claimed a thread.
abbrev pub thread_mark : Option ThreadWord → Option ℕ
thread_mark None = None
thread_mark (Some (Idle depth)) = None
thread_mark (Some (Running c depth)) = None
thread_mark (Some (Claimed d depth)) = Some d

-- The core that has marked the head of a temporal capability.
abbrev pub head_mark : Option HeadWord → Option ℕ
head_mark None = None
head_mark (Some v) = v.mark

-- The mark in the word i of an object: each entry of a node has one, and the first word of a thread or temporal capability.
abbrev pub object_mark : Object → ℕ → ℕ → Option ℕ
object_mark Blank i w = None
object_mark Table i w = entry_mark (entry_of_word w)
object_mark Leaf i w = entry_mark (entry_of_word w)
object_mark Pages i w = entry_mark (entry_of_word w)
object_mark Pleaf i w = entry_mark (entry_of_word w)
object_mark (Comp k) i w = None
object_mark (Thread t) i w = if i == 0 then thread_mark (thread_of_word w) else None
object_mark (Tcap q) i w = if i == 0 then head_mark (head_of_word w) else None

-- The mark in the word i of a frame.
abbrev pub mark_in_frame : Frame → ℕ → ℕ → Option ℕ
mark_in_frame Untyped i w = None
mark_in_frame User i w = None
mark_in_frame (Kernel object) i w = object_mark object i w

-- The core whose mark a word of this name carries, in a state that says what the frames hold.
abbrev pub mark_of : State → Word → ℕ → Option ℕ
mark_of s (EntryAt f i) w = mark_in_frame (s.frame f) i w
mark_of s (FrameAt f) w = frame_mark (frame_of_word w)
mark_of s (CountAt f c) w = count_mark (count_of_word w)
mark_of s (CoreAt c) w = None
mark_of s (FlushAt c) w = None
mark_of s (LiveAt l) w = live_mark (live_of_word w)
mark_of s ClockAt w = None
