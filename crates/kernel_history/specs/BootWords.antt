-- The words of the machine at the start: those of the start state, where the clock is 1 and every stamp and version is 0.
use Rattle.std.specs.Prelude.{◌-◌, ◌==◌, if◌then◌else◌}
use Rattle.kernel_rules.specs.{ℕ, false, length, pos, None, Setting, Place, Free, Holds, Quiescing, ThreadFields}
use Rattle.kernel_rules.specs.{TcapFields, Object, Blank, Table, Leaf, Pages, Pleaf, Comp, Thread, Tcap, Frame, Untyped, User, Kernel}
use Rattle.kernel_rules.specs.{Liveness, Unused, Live, Dead, start, refs}
use Rattle.word_map.specs.{Shape, EntryAt, FrameAt, CountAt, CoreAt, FlushAt, LiveAt, ClockAt}
use Rattle.frame_words.specs.{word_of_frame, word_of_count, word_of_core, word_of_flush, word_of_live}
use Rattle.kernel_history.specs.ObjectWords.{frame_value, comp_word, thread_value, stack_word, quality_word}
use Rattle.{tcap_words.specs.word_of_head, tcap_words.specs.word_of_thread, entry_words.specs.declared.entry.Entry.Entry}
use Rattle.{entry_words.specs.EntryWord.word_of_entry, frame_words.specs.declared.count_word.Hold.TheVariants.Unheld}
use Rattle.{frame_words.specs.declared.live_word.LiveWord.LiveWord, word_map.specs.Word.Word}

-- The entry of a place; at the start none is quiescing.
abbrev pub boot_entry : Place → Entry
boot_entry Free = Entry.Free
boot_entry (Holds k) = Entry.Held k
boot_entry (Quiescing k) = Entry.Free

-- The words of a thread: its first word, and its stack from height 0 on.
abbrev pub boot_thread : ThreadFields → ℕ → ℕ
boot_thread t i = if i == 0 then word_of_thread (thread_value t.runs_on (length t.stack)) else stack_word t.stack (i - 1)

-- The words of a temporal capability: its head, and its list.
abbrev pub boot_tcap : TcapFields → ℕ → ℕ
boot_tcap q i = if i == 0 then word_of_head (record { budget = q.budget; mark = None; version = 0 }) else quality_word q.qualities (i - 1)

-- The word i of an object, where its places are these.
abbrev pub boot_object : Object → (ℕ → Place) → ℕ → ℕ
boot_object Blank place i = 0
boot_object Table place i = word_of_entry (boot_entry (place i))
boot_object Leaf place i = word_of_entry (boot_entry (place i))
boot_object Pages place i = word_of_entry (boot_entry (place i))
boot_object Pleaf place i = word_of_entry (boot_entry (place i))
boot_object (Comp k) place i = comp_word k i
boot_object (Thread t) place i = boot_thread t i
boot_object (Tcap q) place i = boot_tcap q i

-- The word i of a frame.
abbrev pub boot_frame : Frame → (ℕ → Place) → ℕ → ℕ
boot_frame Untyped place i = 0
boot_frame User place i = 0
boot_frame (Kernel object) place i = boot_object object place i

-- The word of a liveness number; at the start none is dead.
abbrev pub boot_live : Liveness → LiveWord
boot_live Unused = LiveWord.Free
boot_live (Live epoch f) = LiveWord.Live epoch f
boot_live (Dead epoch) = LiveWord.Free

-- The word of this name at the start. The references to a frame are counted in core 0's word.
abbrev pub boot_word : Setting → Word → ℕ
boot_word setup (EntryAt f i) = boot_frame ((start setup).frame f) ((start setup).place f) i
boot_word setup (FrameAt f) = word_of_frame (frame_value ((start setup).frame f))
boot_word setup (CountAt f c) =
    word_of_count (record { hold = Unheld; count = pos (if c == 0 then refs (start setup) f else 0); stamp = 0 })
boot_word setup (CoreAt c) = word_of_core (record { inside = false; stamp = 0 })
boot_word setup (FlushAt c) = word_of_flush (record { stamp = 0 })
boot_word setup (LiveAt l) = word_of_live (boot_live ((start setup).number l))
boot_word setup ClockAt = 1

-- The layout of a machine of this setting.
abbrev pub shape_of : Setting → Shape
shape_of setup = record { cores = setup.cores; frames = setup.frames }
