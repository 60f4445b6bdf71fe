-- When words and core ends represent a state in which no core is in a call.
use Rattle.std.specs.Prelude.{◌≡◌, ◌<◌, ◌≤◌, ◌+◌}
use Rattle.kernel_rules.specs.{ℕ, false, [], List, length, Option, Some, None, unwrap_or, slice_index, slice_get}
use Rattle.kernel_rules.specs.{CoreEnd, Place, Free, Holds, Quiescing, CompFields, ThreadFields, TcapFields, Object, Blank, Table, Leaf}
use Rattle.kernel_rules.specs.{Pages, Pleaf, Comp, Thread, Tcap, Frame, Untyped, User, Kernel, Liveness, Unused, Live, Dead, first_of_stack}
use Rattle.word_map.specs.{EntryAt, FrameAt, CoreAt, LiveAt, Shape, place_of}
use Rattle.tcap_words.specs.{head_of_word, quality_of_word, stack_of_word, thread_of_word}
use Rattle.frame_words.specs.{comp_of_word, frame_of_word, core_of_word, live_of_word}
use Rattle.kernel_history.specs.ObjectWords.{holds_node, frame_value, thread_value, at_height}
use Rattle.{kernel_rules.specs.thread_of, kernel_rules.specs.held_in, entry_words.specs.declared.entry.Entry.Entry}
use Rattle.{entry_words.specs.EntryWord.entry_of_word, frame_words.specs.declared.core_word.CoreWord.CoreWord}
use Rattle.{frame_words.specs.declared.live_word.LiveWord.LiveWord, word_map.specs.Word.Word, kernel_rules.specs.State.State}

-- What the word of a place says that no core is closing: it is free, holds the capability, or is quiescing since some stamp.
pub record SaysQuiescing (shown : Option Entry) : Type 0 where
  pub stamp : ℕ
  pub says : shown ≡ Some (Entry.Quiescing stamp)

abbrev pub SaysPlace : Place → Option Entry → Type 0
SaysPlace Free shown = shown ≡ Some Entry.Free
SaysPlace (Holds k) shown = shown ≡ Some (Entry.Held k)
SaysPlace (Quiescing k) shown = SaysQuiescing shown

-- Each entry of a node says its place.
abbrev pub AreEntries : (ℕ → Place) → (ℕ → ℕ) → Type 0
AreEntries place word = (i : ℕ) → i < 64 → SaysPlace (place i) (entry_of_word (word i))

-- The three words of a component say its fields.
pub record AreComp (k : CompFields) (word : ℕ → ℕ) : Type 0 where
  pub table : word 0 ≡ k.table
  pub pages : word 1 ≡ k.pages
  pub live : comp_of_word (word 2) ≡ Some (record { number = k.number; epoch = k.epoch })

-- The words of a thread: where it runs and its depth, unclaimed, and its stack from the bottom on.
pub record AreThread (t : ThreadFields) (word : ℕ → ℕ) : Type 0 where
  pub runs : thread_of_word (word 0) ≡ Some (thread_value t.runs_on (length t.stack))
  pub stack : (h : ℕ) → h < 16 → stack_of_word (word (1 + h)) ≡ Some (record { 0 = at_height t.stack h })

-- The words of a temporal capability: its budget, unmarked, in some version, and its list, which has at most 8 pairs.
pub record AreTcap (q : TcapFields) (word : ℕ → ℕ) : Type 0 where
  pub version : ℕ
  pub head : head_of_word (word 0) ≡ Some (record { budget = q.budget; mark = None; version = version })
  pub list : (j : ℕ) → j < 8 → quality_of_word (word (1 + j)) ≡ Some (record { 0 = slice_get q.qualities j })
  pub most : length q.qualities ≤ 8

-- The words of a frame are those of its object; of a frame without an object nothing is asked.
abbrev pub AreObject : Object → (ℕ → Place) → (ℕ → ℕ) → Type 0
AreObject Blank place word = Unit {0}
AreObject Table place word = AreEntries place word
AreObject Leaf place word = AreEntries place word
AreObject Pages place word = AreEntries place word
AreObject Pleaf place word = AreEntries place word
AreObject (Comp k) place word = AreComp k word
AreObject (Thread t) place word = AreThread t word
AreObject (Tcap q) place word = AreTcap q word

abbrev pub AreFrame : Frame → (ℕ → Place) → (ℕ → ℕ) → Type 0
AreFrame Untyped place word = Unit {0}
AreFrame User place word = Unit {0}
AreFrame (Kernel object) place word = AreObject object place word

-- What the word of a liveness number says that no core is closing.
pub record SaysDead (epoch : ℕ) (shown : Option LiveWord) : Type 0 where
  pub stamp : ℕ
  pub says : shown ≡ Some (LiveWord.Dead epoch stamp)

abbrev pub SaysNumber : Liveness → Option LiveWord → Type 0
SaysNumber Unused shown = shown ≡ Some LiveWord.Free
SaysNumber (Live epoch f) shown = shown ≡ Some (LiveWord.Live epoch f)
SaysNumber (Dead epoch) shown = SaysDead epoch shown

-- The word of a core that is out of a call, with the stamp of its last exit.
pub record SaysOut (shown : Option CoreWord) : Type 0 where
  pub stamp : ℕ
  pub says : shown ≡ Some (record { inside = false; stamp = stamp })

-- The end of a core: its thread, its temporal capability, the component that it works in, its ticks and its translations.
abbrev pub end_of : State → ℕ → CoreEnd
end_of s c = record {
  thread = (s.core c).thread;
  tcap = (s.core c).tcap;
  comp = first_of_stack (thread_of s c).stack;
  spent = (s.core c).spent;
  back = (s.core c).back;
  owed = (s.core c).owed;
  cached = (s.core c).cached;
}

-- Places that hold nothing.
abbrev pub HoldNothing : (ℕ → Place) → Type 0
HoldNothing place = (i : ℕ) → i < 64 → held_in (place i) ≡ None

-- The words and the core ends represent the state, the counts of references apart. Only nodes hold something, since the words
-- of other frames are no entries.
pub record Represent (word : Word → ℕ) (end : ℕ → CoreEnd) (s : State) : Type 0 where
  pub objects : (f : ℕ) → f < s.limits.frames → AreFrame (s.frame f) (s.place f) (λ i. word (EntryAt f i))
  pub bare : (f : ℕ) → f < s.limits.frames → holds_node (s.frame f) ≡ false → HoldNothing (s.place f)
  pub kinds : (f : ℕ) → f < s.limits.frames → frame_of_word (word (FrameAt f)) ≡ Some (frame_value (s.frame f))
  pub numbers : (l : ℕ) → l < 64 → SaysNumber (s.number l) (live_of_word (word (LiveAt l)))
  pub cores : (c : ℕ) → c < s.limits.cores → SaysOut (core_of_word (word (CoreAt c)))
  pub ends : (c : ℕ) → c < s.limits.cores → end c ≡ end_of s c

-- The word of this name in a list by places.
abbrev pub word_in : Shape → List ℕ → Word → ℕ
word_in shape words w = slice_index words (place_of shape w)

-- The end of a core that a list does not tell.
abbrev pub no_end : CoreEnd
no_end = record { thread = 0; tcap = 0; comp = 0; spent = 0; back = 0; owed = 0; cached = [] }

-- The end of core c in a list of ends, core 0's first.
abbrev pub end_in : List CoreEnd → ℕ → CoreEnd
end_in ends c = unwrap_or (slice_get ends c) no_end
