-- What a call knows of where its look-ups have led, and of the place that it fills or removes, said of the state.
use Rattle.act_fits.specs.act_states.specs as low
use low.{Charge, head, HeadFits, word_of_head, ticks_due, ticks_of, is_charging, object_word, last_word, LiveWord, comp_cap, dues, put_by}
use Rattle.std.specs.Prelude.{◌≡◌, ◌≢◌, ◌<◌, ◌≤◌, ◌+◌, ◌++◌, ◌/◌, ◌∷◌, ◌^◌, ◌⊎◌}
use low.{reads_of, removes_by, stamp_of_act, fills_page, comp_is_marked, comp_meets_number, comp_word_at, is_marked}
use low.{ℕ, ℤ, Bool, true, false, map, All, List, [], length, Option, Some, None, IsSome, IsTrue, not}
use low.{is_some, Capability, has_rights, Setting, Kind, Call, Retype, Make as make_call, Flush, Tick, Kill, Map, Touch, FrameKind}
use low.{frame_of_word, FrameWord, EntryFits, entry_of_word, Entry, CompFits, CountFits, word_of_count, live_of_word, CompWord, EntryAt}
use low.{CountAt, FrameAt, LiveAt, User, Thing, PlaceOf, State, first_of_stack, thread_of, comp_of, comp_in, NumberOf, Dead, translation_of}
use low.{is_at_page, Want, Slot, Named, root_at, Target, Under, InRoot, usable, linked, root_slot, reached, found, fits, IsGuarded, Relies}
use low.{Push as PushOf, Pop as PopOf, Look, AtRoot, AtLeaf, AtEntry, unheld, Pin, AtLoad, Acquired, Plan, Leads, Next, NextName, NextFree}
use low.{NextHeld, NextOwn, NextNothing, next_of, is_killing, is_entering, is_leaving, is_switching, is_typing, has_frame, Close}
use low.{AtCompare as close_compare, AtDraw, AtStore, Quiet, AtCore, AtFlush, is_drawing}
use Rattle.kernel_history.specs.{marked_by, frame_mark, live_mark, IsLeave, shape_of, Phase, Out, phase, state_after, own_left, own_read}
use Rattle.kernel_history.specs.{steps_in_call, WasAt, last_left, root_passed, counts_references, changes_places, changes_frames}
use Rattle.kernel_history.specs.{changes_numbers, stores_flush, changes_threads, IsInFootprint, is_one_of, frame_argument, HasReached}
use Rattle.kernel_history.specs.{IsRemoved, clock, stamp, exit_of, flush_of, flush_stored}
use Rattle.act_fits.specs.stage_tcap.specs.{Blank, Comp as comp_kind, Untyped, Kernel as FrameKernel}
use Rattle.act_fits.specs.call_stages.specs.{Core, IsCore}
use Rattle.act_fits.specs.stage_tcap.specs.declared.charge.Charge.TheVariants.{AtLoad as charge_load, AtCompare as charge_compare}
use low.Objects.{object_cap, object_made}
use low.declared.makings.MakingAt.TheVariants.{Load as making_load, Mark, Store, Fill as making_fill}
use low.declared.kills.KillingAt.TheVariants.{LoadComp, LoadLive, Close as kill_close, Draw as kill_draw}
use low.declared.typings.TypingAt.TheVariants.{Load, Compare as type_compare}
use low.declared.work.Act.TheVariants.{Fill as fill_act, Remove as remove_act, Retype as type_act, Make as make_act, Outside}
use low.declared.work.Act.TheVariants.{Tick as tick_act, Flush as flush_act, Kill as kill_act, Untype as untype_act, Map as map_act}
use low.declared.work.Act.TheVariants.{MakeComp as comp_act, Invoke as invoke_act, Return as return_act, Touch as touch_act}
use low.declared.work.Act.TheVariants.{Share as share_act, Switch as switch_act}
use low.declared.work.Work.TheVariants.{Lookup, Read, Scan, Acquire, Act}
use low.declared.work.Tail.TheVariants.{Nothing, Quiesce, Unmark, StoreDead, StoreFlush, Release, StoreLive, Push, Pop, Share, StoreRunning}
use Rattle.kernel_history.specs.Trace.{Trace, Open}
use Rattle.act_fits.specs.call_stages.specs.declared.stages.Stage.TheVariants.{Enter, Undecided, Decided, Leave}
use Rattle.core_invariant.specs.{Shares.KnowsShare, Shares.KnowsShared, Holding.count_of, Holding.holds_counts, Holding.AreApart}
use Rattle.core_invariant.specs.{Components.HasComp, Components.HasLife, Components.IsRead, Components.ReadIs, Components.KnowsInvoking}
use Rattle.core_invariant.specs.{Components.KnowsReturning, Threads.KnowsSwitch, Threads.KnowsRunning, Threads.KnowsIdle}
use Rattle.core_invariant.specs.{Sweeps.KnowsUntyping, Sweeps.KnowsRelease}
use low.{declared.comps.CompAt.CompAt, declared.comps.CompMaking.CompMaking, declared.comps.LastEpoch.LastEpoch}
use low.{declared.makings.MakingAt.MakingAt, declared.makings.Making.Making, declared.objects.NewObject.NewObject}
use low.{declared.touches.Touching.Touching, declared.kills.Killing.Killing, declared.kills.KillingAt.KillingAt, declared.own.Own.Own}
use low.{declared.fills.Fill.Fill, declared.typings.Typing.Typing, declared.typings.TypingAt.TypingAt, declared.work.Act.Act as ActOf}
use low.{declared.work.Work.Work, declared.work.Due.Due, declared.work.Tail.Tail, declared.work.Tail.TheVariants.StoreIdle}
use Rattle.{act_fits.specs.stage_pins.specs.declared.pin.Pin.TheVariants.AtCompare}
use Rattle.{act_fits.specs.call_stages.specs.declared.stages.Stage.Stage}
use Rattle.{act_fits.specs.call_stages.specs.declared.stages.ActiveCall.ActiveCall}
use Rattle.act_fits.specs.kernel_invariant.specs.spk_nums.specs.declared.calls.Make.TheVariants as make
use Rattle.act_fits.specs.act_states.specs.declared.comps.CompAt.TheVariants as comp_at
use Rattle.kernel_history.specs.frame_words.specs.declared.live_word.LiveWord.TheVariants as live_word
use Rattle.kernel_history.specs.Trace as history
use Rattle.act_fits.specs.stage_thread.specs.declared.stack.Push.TheVariants as push
use Rattle.act_fits.specs.stage_thread.specs.declared.stack.Pop.TheVariants as pop

-- The frame of the root of a target.
abbrev pub root_frame : Target → ℕ
root_frame (Under table n) = table.frame
root_frame (InRoot table i) = table.frame

-- Core c relies on the root of a target: it is a node, which no other core may retype.
abbrev pub ReliesOn : Setting → Trace → ℕ → Target → Type 0
ReliesOn setup t c target = Relies (state_after setup t) c (root_frame target)

-- Core c reaches this slot by the target, and its call has stepped on the entries of the way.
pub record IsReached (setup : Setting) (t : Trace) (c : ℕ) (target : Target) (at : Slot) : Type 0 where
  pub relies : ReliesOn setup t c target
  pub reached : reached (state_after setup t) c target ≡ Some at
  pub stepped : HasReached t c (root_passed target ++ at ∷ [])

-- Core c reaches a slot by the target, and may use this capability there, of a wanted kind and with the rights needed.
pub record HasFound (setup : Setting) (t : Trace) (c : ℕ) (target : Target) (wanted : Want) (k : Capability) : Type 0 where
  pub at : Slot
  pub way : IsReached setup t c target at
  pub usable : usable (state_after setup t) c at ≡ Some k
  pub kind : wanted.kinds k.kind ≡ true
  pub right : has_rights k.rights wanted.needs ≡ true
  pub fits : EntryFits (Entry.Held k)

-- A look-up of a number is before the root entry that it chooses.
pub record IsAtRoot (table : Named) (n root number : ℕ) : Type 0 where
  pub found : table.found ≡ true
  pub frame : table.frame ≡ root
  pub same : n ≡ number
  pub within : n ≤ 4095

-- It is before the leaf entry: the call has stepped on the root entry, by whose link core c may go on to the leaf.
pub record IsAtLeaf (setup : Setting) (t : Trace) (c : ℕ) (table : Named) (n leaf number : ℕ) : Type 0 where
  pub found : table.found ≡ true
  pub same : n ≡ number
  pub within : n ≤ 4095
  pub link : linked (usable (state_after setup t) c (root_slot table.frame n)) ≡ Some leaf
  pub stepped : IsSome (own_left t c (EntryAt table.frame (n / 64)))

-- It is before the root entry that is itself the target.
pub record IsAtEntry (table : Named) (i root index : ℕ) : Type 0 where
  pub found : table.found ≡ true
  pub frame : table.frame ≡ root
  pub same : i ≡ index
  pub within : i ≤ 63

-- A look-up of a target stands here.
abbrev pub LookIs : Setting → Trace → ℕ → Target → Look → Type 0
LookIs setup t c (Under table n) (AtRoot root number) = IsAtRoot table n root number
LookIs setup t c (Under table n) (AtLeaf leaf number) = IsAtLeaf setup t c table n leaf number
LookIs setup t c (Under table n) (AtEntry root index) = ⊥
LookIs setup t c (InRoot table i) (AtRoot root number) = ⊥
LookIs setup t c (InRoot table i) (AtLeaf leaf number) = ⊥
LookIs setup t c (InRoot table i) (AtEntry root index) = IsAtEntry table i root index

-- Core c looks up the target.
pub record LooksUp (setup : Setting) (t : Trace) (c : ℕ) (target : Target) (look : Look) : Type 0 where
  pub relies : ReliesOn setup t c target
  pub at : LookIs setup t c target look

-- The target of an own name of a core whose component has this table.
abbrev pub own_in : ℕ → ℕ → Target
own_in table n = Under (root_at table) n

-- The names of a call have led to these capabilities, in a component with this table.
abbrev pub NamesAre : Setting → Trace → ℕ → ℕ → Plan → List Capability → Type 0
NamesAre setup t c table plan found = Leads (λ n wanted k. HasFound setup t c (own_in table n) wanted k) plan.names [] found

-- What is to be looked up next is being looked up.
abbrev pub LooksFor : Setting → Trace → ℕ → ℕ → Next → Look → Type 0
LooksFor setup t c table (NextName n wanted) look = LooksUp setup t c (own_in table n) look
LooksFor setup t c table (NextFree target) look = LooksUp setup t c target look
LooksFor setup t c table (NextHeld target) look = LooksUp setup t c target look
LooksFor setup t c table (NextOwn v) look = ⊥
LooksFor setup t c table NextNothing look = ⊥

-- Core d has passed the grace period that began at this stamp: while the stamp is the thing's, d does not wait.
abbrev pub HasPassed : Setting → Trace → Thing → ℕ → ℕ → Type 0
HasPassed setup t x at d = stamp setup t x ≡ at → ((state_after setup t).grace x).waits d ≡ false

-- Core d has flushed since this stamp: while the stamp is the thing's, no grace period of it waits for a flush of d.
abbrev pub HasFlushed : Setting → Trace → Thing → ℕ → ℕ → Type 0
HasFlushed setup t x at d = stamp setup t x ≡ at → ((state_after setup t).grace x).unflushed d ≡ false

-- A thing was removed at a moment of core c's call, at a stamp that is past and no later than its last; and the cores below `upto`
-- have passed the grace period that began at that stamp, but for c, and have flushed since.
pub record IsScanned (setup : Setting) (t : Trace) (c : ℕ) (x : Thing) (at upto : ℕ) : Type 0 where
  pub some : 1 ≤ at
  pub past : at < clock setup t
  pub rises : at ≤ stamp setup t x
  pub was_removed : WasAt (IsRemoved x) setup t c
  pub passed : (d : ℕ) → d < upto → d ≢ c → HasPassed setup t x at d
  pub flushed : (d : ℕ) → d < upto → HasFlushed setup t x at d

-- A word that a call may fill says that its place is free, or quiescing and scanned so far.
abbrev pub MayFill : Setting → Trace → ℕ → Thing → ℕ → Option Entry → Type 0
MayFill setup t c x upto None = ⊥
MayFill setup t c x upto (Some Entry.Free) = Unit {0}
MayFill setup t c x upto (Some (Entry.Held k)) = ⊥
MayFill setup t c x upto (Some (Entry.Closing by)) = ⊥
MayFill setup t c x upto (Some (Entry.Quiescing at)) = IsScanned setup t c x at upto

-- The slot of a target that is to be free is reached, and the call's last step on its entry has read this word there, which it may fill.
pub record IsSpot (setup : Setting) (t : Trace) (c : ℕ) (plan : Plan) (ks : List Capability) (upto node index word : ℕ) : Type 0 where
  pub target : Target
  pub next : next_of plan ks ≡ NextFree target
  pub way : IsReached setup t c target (record { node = node; index = index })
  pub own : own_read t c (EntryAt node index) ≡ Some word
  pub vacant : MayFill setup t c (PlaceOf node index) upto (entry_of_word word)

-- A user frame of which core c holds its count.
pub record IsUser (setup : Setting) (t : Trace) (c f : ℕ) : Type 0 where
  pub user : (state_after setup t).frame f ≡ User
  pub held : marked_by setup t (CountAt f c) ≡ Some c

-- A frame that the call maps is a user frame, of which it has acquired the count; of other calls nothing is asked.
abbrev pub HasUser : Setting → Trace → ℕ → Call → Type 0
HasUser setup t c (Map p v r f w) = IsUser setup t c f
HasUser setup t c call = Unit {0}

-- The slot of the target is reached, and the call's last step on its entry has read this word there, which it may fill; and what is to
-- be put there is what the call puts.
pub record IsFill (setup : Setting) (t : Trace) (c : ℕ) (call : Call) (plan : Plan) (found : List Capability) (upto : ℕ) (fill : Fill) :
    Type 0 where
  pub target : Target
  pub next : next_of plan found ≡ NextFree target
  pub way : IsReached setup t c target (record { node = fill.node; index = fill.entry })
  pub own : own_read t c (EntryAt fill.node fill.entry) ≡ Some fill.word
  pub vacant : MayFill setup t c (PlaceOf fill.node fill.entry) upto (entry_of_word fill.word)
  pub fits : EntryFits (Entry.Held fill.cap)
  pub read : Option ℕ
  pub has_read : ReadIs (state_after setup t) c (reads_of call found) read
  pub puts : put_by call found read ≡ Some fill.cap
  pub user : HasUser setup t c call

-- Whether a call makes a frame untyped.
abbrev pub untypes : Call → Bool
untypes (Retype r f Untyped) = true
untypes call = false

abbrev pub is_mapping : Call → Bool
is_mapping (Map p v r f w) = true
is_mapping call = false

abbrev pub mapped_frame : Call → ℕ
mapped_frame (Map p v r f w) = f
mapped_frame call = 0

-- A call that maps a frame has reached its target as one that fills it, and puts there a mapping of the frame.
pub record IsMapping (setup : Setting) (t : Trace) (c : ℕ) (call : Call) (plan : Plan) (found : List Capability) (upto : ℕ) (fill : Fill) :
    Type 0 where
  pub spot : IsSpot setup t c plan found upto fill.node fill.entry fill.word
  pub fits : EntryFits (Entry.Held fill.cap)
  pub puts : put_by call found None ≡ Some fill.cap
  pub frame : fill.cap.frame ≡ mapped_frame call
  pub maps : is_mapping call ≡ true

-- A call that removes what its target holds has reached the target, and may use there what it removes.
pub record IsRemoval (setup : Setting) (t : Trace) (c : ℕ) (call : Call) (plan : Plan) (found : List Capability) (node index : ℕ)
    (cap : Capability) : Type 0 where
  pub target : Target
  pub next : next_of plan found ≡ NextHeld target
  pub way : IsReached setup t c target (record { node = node; index = index })
  pub usable : usable (state_after setup t) c (record { node = node; index = index }) ≡ Some cap
  pub fits : EntryFits (Entry.Held cap)
  pub removes : removes_by call ≡ true

-- Before the compare, the call's last step on the entry has read there this word, which says what it holds.
pub record IsClosing (setup : Setting) (t : Trace) (c : ℕ) (call : Call) (plan : Plan) (found : List Capability) (node index word by : ℕ)
    (cap : Capability) : Type 0 where
  pub removal : IsRemoval setup t c call plan found node index cap
  pub own : own_read t c (EntryAt node index) ≡ Some word
  pub held : entry_of_word word ≡ Some (Entry.Held cap)
  pub core : by ≡ c

abbrev pub KnowsClose : Setting → Trace → ℕ → Call → Plan → List Capability → Close → Capability → Type 0
KnowsClose setup t c call plan found (close_compare node index word core) cap =
    IsClosing setup t c call plan found node index word core cap
KnowsClose setup t c call plan found (AtDraw node index) cap = IsRemoval setup t c call plan found node index cap
KnowsClose setup t c call plan found (AtStore node index at) cap = ⊥
