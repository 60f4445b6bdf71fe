-- What the settled words say of the state, kind by kind.
use Rattle.std.specs.Prelude.{◌≡◌, ◌<◌, ◌≤◌}
use Rattle.kernel_history.specs.{ℕ, zero, suc, ℤ, pos, length, slice_get, Option, Some, None, Entry, entry_of_word}
use Rattle.kernel_history.specs.{comp_of_word, frame_of_word, count_of_word, residue, core_of_word, flush_of_word, live_of_word, CountWord}
use Rattle.kernel_history.specs.{Unheld, LiveWord, head_of_word, quality_of_word, stack_of_word, thread_of_word, HeadWord, Word, EntryAt}
use Rattle.kernel_history.specs.{FrameAt, CountAt, CoreAt, FlushAt, LiveAt, ClockAt, Place, Free, Holds, Quiescing, CompFields}
use Rattle.kernel_history.specs.{ThreadFields, TcapFields, Object, Blank, Table, Leaf, Pages, Pleaf, Comp, Thread, Tcap, Frame, Untyped}
use Rattle.kernel_history.specs.{User, Kernel, Liveness, Unused, Live, Dead, Thing, PlaceOf, NumberOf, State, refs, counters, count_sum}
use Rattle.kernel_history.specs.{frame_value, thread_value, at_height}
use Rattle.{act_fits.specs.act_states.specs.CapNames, act_fits.specs.act_states.specs.rank, core_invariant.specs.CountWords.newest_of}

-- The stamps that words carry: that of the grace period of a thing, and those of a core's last exit and last flush.
pub record Times : Type 0 where
  pub stamp : Thing → ℕ
  pub exit : ℕ → ℕ
  pub flush : ℕ → ℕ

-- The word of a place that is quiescing carries the stamp of its grace period.
pub record QuiescingSince (stamp : ℕ) (shown : Option Entry) : Type 0 where
  pub drawn : 1 ≤ stamp
  pub says : shown ≡ Some (Entry.Quiescing stamp)

-- The word of a place says that it is free, what it holds, or since when it is quiescing. What it holds names frames of the machine.
abbrev pub PlaceIs : ℕ → Place → ℕ → Option Entry → Type 0
PlaceIs frames Free stamp shown = shown ≡ Some Entry.Free
PlaceIs frames (Holds k) stamp shown = (shown ≡ Some (Entry.Held k)) × CapNames frames k
PlaceIs frames (Quiescing k) stamp shown = QuiescingSince stamp shown

-- The word i of a component: the frame of its table, that of its pages, and its liveness number with its epoch.
abbrev pub IsCompWord : CompFields → ℕ → ℕ → Type 0
IsCompWord k zero x = x ≡ k.table
IsCompWord k (suc zero) x = x ≡ k.pages
IsCompWord k (suc (suc zero)) x = comp_of_word x ≡ Some (record { number = k.number; epoch = k.epoch })
IsCompWord k (suc (suc (suc i))) x = Unit {0}

-- The word i of a thread: where it runs with its depth, then its stack from the bottom on.
abbrev pub IsThreadWord : ThreadFields → ℕ → ℕ → Type 0
IsThreadWord t zero x = thread_of_word x ≡ Some (thread_value t.runs_on (length t.stack))
IsThreadWord t (suc h) x = h < 16 → stack_of_word x ≡ Some (record { 0 = at_height t.stack h })

-- The head of a temporal capability: its budget, in a version that is at most the rank of its list, which has at most 8 pairs. So a version
-- stays within its field: it is raised where the list becomes another, and that has a greater rank.
pub record HeadIs (q : TcapFields) (shown : Option HeadWord) : Type 0 where
  pub version : ℕ
  pub says : shown ≡ Some (record { budget = q.budget; mark = None; version = version })
  pub within : version ≤ rank q.qualities
  pub most : length q.qualities ≤ 8

-- The word i of a temporal capability: its head, then its list.
abbrev pub IsTcapWord : TcapFields → ℕ → ℕ → Type 0
IsTcapWord q zero x = HeadIs q (head_of_word x)
IsTcapWord q (suc j) x = j < 8 → quality_of_word x ≡ Some (record { 0 = slice_get q.qualities j })

-- The word i of an object, where its place i is this, with the stamp of that place.
abbrev pub IsObjectWord : ℕ → Object → Place → ℕ → ℕ → ℕ → Type 0
IsObjectWord frames Blank place stamp i x = Unit {0}
IsObjectWord frames Table place stamp i x = i < 64 → PlaceIs frames place stamp (entry_of_word x)
IsObjectWord frames Leaf place stamp i x = i < 64 → PlaceIs frames place stamp (entry_of_word x)
IsObjectWord frames Pages place stamp i x = i < 64 → PlaceIs frames place stamp (entry_of_word x)
IsObjectWord frames Pleaf place stamp i x = i < 64 → PlaceIs frames place stamp (entry_of_word x)
IsObjectWord frames (Comp k) place stamp i x = IsCompWord k i x
IsObjectWord frames (Thread t) place stamp i x = IsThreadWord t i x
IsObjectWord frames (Tcap q) place stamp i x = IsTcapWord q i x

-- The word i of a frame; of a frame without an object nothing is said.
abbrev pub IsFrameWord : ℕ → Frame → Place → ℕ → ℕ → ℕ → Type 0
IsFrameWord frames Untyped place stamp i x = Unit {0}
IsFrameWord frames User place stamp i x = Unit {0}
IsFrameWord frames (Kernel object) place stamp i x = IsObjectWord frames object place stamp i x

-- The word of a count, which is held by no core.
pub record SaysCount (shown : Option CountWord) : Type 0 where
  pub count : ℤ
  pub stamp : ℕ
  pub says : shown ≡ Some (record { hold = Unheld; count = count; stamp = stamp })

-- The counts of a frame, as its count words show them: they sum to the references to the frame, modulo 2 ^ 16, and the greatest of their
-- stamps is that of the last release of a reference to it.
pub record CountsAre (s : State) (f since : ℕ) (shown : ℕ → Option CountWord) : Type 0 where
  pub sum : residue (count_sum shown (counters s.limits.cores)) ≡ residue (pos (refs s f))
  pub newest : newest_of shown (counters s.limits.cores) ≡ since

-- The word of a number that is dead carries the stamp of its grace period.
pub record DeadSince (epoch stamp : ℕ) (shown : Option LiveWord) : Type 0 where
  pub drawn : 1 ≤ stamp
  pub says : shown ≡ Some (LiveWord.Dead epoch stamp)

-- The word of a liveness number.
abbrev pub NumberIs : Liveness → ℕ → Option LiveWord → Type 0
NumberIs Unused stamp shown = shown ≡ Some LiveWord.Free
NumberIs (Live epoch f) stamp shown = shown ≡ Some (LiveWord.Live epoch f)
NumberIs (Dead epoch) stamp shown = DeadSince epoch stamp shown

-- The settled word of this name says what the state is.
abbrev pub WordIs : State → Times → Word → ℕ → Type 0
WordIs s times (EntryAt f i) x = IsFrameWord s.limits.frames (s.frame f) (s.place f i) (times.stamp (PlaceOf f i)) i x
WordIs s times (FrameAt f) x = frame_of_word x ≡ Some (frame_value (s.frame f))
WordIs s times (CountAt f c) x = SaysCount (count_of_word x)
WordIs s times (CoreAt c) x = core_of_word x ≡ Some (record { inside = (s.core c).inside; stamp = times.exit c })
WordIs s times (FlushAt c) x = flush_of_word x ≡ Some (record { stamp = times.flush c })
WordIs s times (LiveAt l) x = NumberIs (s.number l) (times.stamp (NumberOf l)) (live_of_word x)
WordIs s times ClockAt x = Unit {0}
