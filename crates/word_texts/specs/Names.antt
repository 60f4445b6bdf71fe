-- The names of words.
use Rattle.std.specs.Prelude.{◌++◌, ◌==◌, if◌then◌else◌}
use Rattle.step_views.specs.kernel_history.specs.{ℕ, zero, suc, List, codes, decimal, with_one, Obj, Word}
use Rattle.step_views.specs.kernel_history.specs.{EntryAt, FrameAt, CountAt, CoreAt, FlushAt, LiveAt, ClockAt}
use Rattle.spk_nums.specs.declared.kinds.Obj.TheVariants.{Blank, Comp, Thread, Tcap}
use Rattle.{spk_nums.specs.Texts.with_two, word_texts.specs.Objects.object_of, word_texts.specs.Objects.object_text}

-- One of the 64 words of a frame, by its number.
abbrev pub slot_text : List ℕ → ℕ → ℕ → List ℕ
slot_text object f i = with_one object f ++ (codes " [" ++ (decimal i ++ codes "]"))

-- A word of a component: its table, its pages, its liveness number.
abbrev pub comp_slot : ℕ → ℕ → List ℕ
comp_slot f i =
    if i == 0 then with_one (codes "comp") f ++ codes " table"
    else if i == 1 then with_one (codes "comp") f ++ codes " pages"
    else if i == 2 then with_one (codes "comp") f ++ codes " life"
    else slot_text (codes "comp") f i

-- Of a thread: who runs it, its stack. Of a temporal capability: its budget, its qualities.
abbrev pub thread_slot : ℕ → ℕ → List ℕ
thread_slot f i = if i == 0 then with_one (codes "thread") f else with_one (codes "thread") f ++ with_one (codes " stack") i

abbrev pub tcap_slot : ℕ → ℕ → List ℕ
tcap_slot f i = if i == 0 then with_one (codes "tcap") f else with_one (codes "tcap") f ++ with_one (codes " quality") i

-- Of a frame that holds no object, or one that is being made, a word has its number alone.
abbrev pub entry_name : Obj → ℕ → ℕ → List ℕ
entry_name Blank f i = slot_text (codes "frame") f i
entry_name Comp f i = comp_slot f i
entry_name Thread f i = thread_slot f i
entry_name Tcap f i = tcap_slot f i
entry_name object f i = slot_text (object_text object) f i

-- The name of a word, where the word of its frame is this.
abbrev pub word_name : ℕ → Word → List ℕ
word_name frame (EntryAt f i) = entry_name (object_of frame) f i
word_name frame (FrameAt f) = with_one (codes "frame") f ++ codes " kind"
word_name frame (CountAt f c) = with_one (codes "frame") f ++ with_one (codes " count of core") c
word_name frame (CoreAt c) = with_one (codes "core") c
word_name frame (FlushAt c) = with_one (codes "core") c ++ codes " flush"
word_name frame (LiveAt l) = with_one (codes "life") l
word_name frame ClockAt = codes "clock"
