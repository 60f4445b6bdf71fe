-- When a decision is justified by the steps of its own call.
use Rattle.std.specs.Prelude.{◌≡◌, ◌≢◌, ◌⊎◌, ◌==◌, ◌&&◌, ◌∷◌, if◌then◌else◌}
use Rattle.kernel_rules.specs.{ℕ, Bool, Option, Some, None, List, IsSome, is_some, IsTrue, All}
use Rattle.kernel_rules.specs.{Call, Reply, Setting, Place, Free, Holds, Quiescing, Thread, Tcap, Frame, Kernel, Liveness}
use Rattle.kernel_rules.specs.{Unused, Live, Dead, Thing, PlaceOf, FrameOf, NumberOf, Slot, same_thing, MayWait, MayBeUnflushed, rule_of}
use Rattle.word_map.specs.{EntryAt, FrameAt, CountAt, CoreAt, FlushAt, LiveAt, ClockAt, word_of}
use Rattle.kernel_history.specs.{ObjectWords.holds_node, Marks.mark_of, Marking.HasMarked, Ways.ways, Ways.wide_ways, Ways.target_of}
use Rattle.kernel_history.specs.{Ways.asked_of, Ways.waited_in, Ways.flushed_in, Trace.Step, Trace.Trace, Trace.own_left, Trace.only_reads}
use Rattle.kernel_history.specs.{Trace.own_read, Trace.state_before, Trace.WasBefore}
use Rattle.{kernel_rules.specs.Rule, std.specs.List.list_any, word_map.specs.Word.Word, kernel_rules.specs.State.State}

-- What the last step before e of e's own call on e's word has read there, if that step left it as found.
abbrev pub own_read_before : Trace → Step → Option ℕ
own_read_before t e = if is_some e.enters then None else own_read t e.core (word_of e.move)

-- The slot is one of these.
abbrev pub is_slot_in : List Slot → ℕ → ℕ → Bool
is_slot_in slots f i = list_any (λ at. at.node == f && at.index == i) slots

-- The slot is this one.
abbrev pub IsSlot : Option Slot → ℕ → ℕ → Type 0
IsSlot None f i = ⊥
IsSlot (Some at) f i = (at.node ≡ f) × (at.index ≡ i)

-- A frame with a first word for which calls race: a thread or a temporal capability.
abbrev pub HasRacedHead : Frame → Type 0
HasRacedHead (Kernel (Thread t)) = Unit {0}
HasRacedHead (Kernel (Tcap q)) = Unit {0}
HasRacedHead _ = ⊥

-- A call may lose a race for this word: it is that of its target, that of a frame, of a count or of a liveness number, or the
-- first word of a thread or of a temporal capability.
abbrev pub MayLose : State → ℕ → Rule → Word → Type 0
MayLose s c rule (EntryAt f i) = IsSlot (target_of s c rule) f i ⊎ (HasRacedHead (s.frame f) × (i ≡ 0))
MayLose s c rule (FrameAt f) = Unit {0}
MayLose s c rule (CountAt f d) = Unit {0}
MayLose s c rule (CoreAt d) = ⊥
MayLose s c rule (FlushAt d) = ⊥
MayLose s c rule (LiveAt l) = Unit {0}
MayLose s c rule ClockAt = ⊥

-- The call has lost a race at e: e reads a word for which the call may lose one, and leaves it as found; the call's last step on
-- that word has read it before, and left it as found; and the values differ.
pub record IsRaceLost (t : Trace) (e : Step) (s : State) (rule : Rule) : Type 0 where
  pub at : MayLose s e.core rule (word_of e.move)
  pub reads : IsTrue (only_reads e)
  pub own : ℕ
  pub has_read : own_read_before t e ≡ Some own
  pub changed : e.found ≢ own

-- A word that is an entry is one through which a name, the target or the page of the call is reached, where a root entry whose
-- link is removed leads on.
abbrev pub IsOnWay : State → ℕ → Rule → Word → Type 0
IsOnWay s c rule (EntryAt f i) = IsTrue (holds_node (s.frame f)) → IsTrue (is_slot_in (wide_ways s c rule) f i)
IsOnWay s c rule _ = Unit {0}

-- The call is held up at e by core d: e found a word with the mark of d, another core, which is in a call and has put the mark
-- there in that call.
pub record IsHeldUp (setup : Setting) (t : Trace) (e : Step) (s : State) (rule : Rule) (d : ℕ) : Type 0 where
  pub marked : mark_of s (word_of e.move) e.found ≡ Some d
  pub other : d ≢ e.core
  pub is_inside : IsTrue (s.core d).inside
  pub has_marked : HasMarked setup t (word_of e.move) d
  pub on_way : IsOnWay s e.core rule (word_of e.move)

-- A removed place is quiescing, and a killed liveness number is dead; of a frame nothing is asked.
abbrev pub IsRemovedPlace : Place → Type 0
IsRemovedPlace Free = ⊥
IsRemovedPlace (Holds k) = ⊥
IsRemovedPlace (Quiescing k) = Unit {0}

abbrev pub IsDeadNumber : Liveness → Type 0
IsDeadNumber Unused = ⊥
IsDeadNumber (Live epoch f) = ⊥
IsDeadNumber (Dead epoch) = Unit {0}

abbrev pub IsRemoved : Thing → State → Type 0
IsRemoved (PlaceOf f i) s = IsRemovedPlace (s.place f i)
IsRemoved (FrameOf f) s = Unit {0}
IsRemoved (NumberOf l) s = IsDeadNumber (s.number l)

-- The call waits for core d: it asks for a thing that d may still use, and that was removed at a moment of the call.
pub record IsWaiting (setup : Setting) (t : Trace) (e : Step) (s : State) (rule : Rule) (d : ℕ) : Type 0 where
  pub thing : Thing
  pub asked : IsTrue (list_any (same_thing thing) (asked_of waited_in s e.core rule))
  pub may_wait : MayWait s e.core thing d
  pub was_removed : WasBefore (IsRemoved thing) setup t e

-- The call waits for a flush of core d: it asks for a thing that d may not have flushed, and that was removed at a moment of
-- the call.
pub record IsUnflushed (setup : Setting) (t : Trace) (e : Step) (s : State) (rule : Rule) (d : ℕ) : Type 0 where
  pub thing : Thing
  pub asked : IsTrue (list_any (same_thing thing) (asked_of flushed_in s e.core rule))
  pub may_be_unflushed : MayBeUnflushed s thing d
  pub was_removed : WasBefore (IsRemoved thing) setup t e

-- The core's call has stepped on the entry of each place through which its names and its target are reached.
abbrev pub HasReached : Trace → ℕ → List Slot → Type 0
HasReached t c slots = All (λ at. IsSome (own_left t c (EntryAt at.node at.index))) slots

-- The reply that e decides, in state s by the rule of its call, is justified: an `ok` has reached its places, a `raced` has lost
-- a race, a `busy` is held up, and a `quiescing` or an `unflushed` waits. Other refusals stand by the call relation alone.
abbrev pub IsJustifiedIn : Setting → Trace → Step → State → Rule → Reply → Type 0
IsJustifiedIn setup t e s rule (Reply.Ok v) = HasReached (e ∷ t) e.core (ways s e.core rule)
IsJustifiedIn setup t e s rule Reply.Raced = IsRaceLost t e s rule
IsJustifiedIn setup t e s rule (Reply.Busy d) = IsHeldUp setup t e s rule d
IsJustifiedIn setup t e s rule (Reply.Quiescing d) = IsWaiting setup t e s rule d
IsJustifiedIn setup t e s rule (Reply.Unflushed d) = IsUnflushed setup t e s rule d
IsJustifiedIn setup t e s rule _ = Unit {0}

-- The reply that e decides for the call is justified.
abbrev pub IsJustified : Setting → Trace → Step → Call → Reply → Type 0
IsJustified setup t e call r = IsJustifiedIn setup t e (state_before setup t e) (rule_of (state_before setup t e) e.core call) r
