-- What a call knows where it stands, said of the state; and what a core is after a trace.
use Rattle.act_fits.specs.act_states.specs as low
use Rattle.std.specs.Prelude.{◌≡◌, ◌≢◌, ◌<◌, ◌≤◌, ◌+◌, ◌++◌, ◌∷◌, ◌^◌}
use low.{IsSmallChange, dues, reads_of, stamp_of_act, fills_page, ℕ, ℤ, Bool, true, false, map, All, List, [], length, Option, Some, None}
use low.{IsTrue, not, Capability, Setting, Call, frame_of_word, CountFits, word_of_count, live_of_word, CompWord, EntryAt, CountAt, LiveAt}
use low.{Thing, PlaceOf, State, first_of_stack, thread_of, comp_of, Target, found, fits, Relies, Push as PushOf, Pop as PopOf, Look, unheld}
use low.{Pin, AtLoad, Acquired, Plan, Next, NextName, NextFree, NextHeld, NextOwn, NextNothing, next_of, Alive, AtComp, AtLive, asks_life}
use low.{acts, Close, AtCompare as close_compare, AtDraw, AtStore, Quiet, AtCore, AtFlush, plan_for, phases_of, Aim}
use Rattle.kernel_history.specs.{frame_mark, live_mark, IsLeave, shape_of, Phase, Out, phase, state_after, own_read, steps_in_call, WasAt}
use Rattle.kernel_history.specs.{counts_references, changes_places, changes_frames, changes_numbers, stores_flush, changes_threads}
use Rattle.kernel_history.specs.{IsInFootprint, is_one_of, frame_argument, clock, stamp, exit_of, flush_of, flush_stored}
use Rattle.act_fits.specs.call_stages.specs.{Core, IsCore}
use low.declared.work.Act.TheVariants.{Fill as fill_act, Remove as remove_act, Retype as type_act, Make as make_act, Outside}
use low.declared.work.Act.TheVariants.{Tick as tick_act, Flush as flush_act, Kill as kill_act, Untype as untype_act, Map as map_act}
use low.declared.work.Act.TheVariants.{MakeComp as comp_act, Invoke as invoke_act, Return as return_act, Touch as touch_act}
use low.declared.work.Act.TheVariants.{Share as share_act, Refill as refill_act, Switch as switch_act}
use low.declared.work.Work.TheVariants.{Lookup, Read, Scan, Acquire, Act}
use low.declared.work.Tail.TheVariants.{Nothing, Quiesce, Unmark, StoreDead, StoreFlush, Release, StoreLive, Push, Pop, Share, StoreRunning}
use Rattle.kernel_history.specs.Trace.{Trace, Open}
use Rattle.act_fits.specs.call_stages.specs.declared.stages.Stage.TheVariants.{Enter, Living, Undecided, Decided, Leave}
use Rattle.core_invariant.specs.{Shares.KnowsShare, Shares.KnowsShared, Refills.KnowsRefill, Holding.count_of, Holding.holds_counts}
use Rattle.core_invariant.specs.{Holding.AreApart, Threads.KnowsSwitch, Threads.KnowsRunning, Threads.KnowsIdle, Sweeps.KnowsUntyping}
use low.{declared.own.Own.Own, declared.work.Act.Act as ActOf, declared.work.Work.Work, declared.work.Due.Due, declared.work.Tail.Tail}
use low.{declared.work.Tail.TheVariants.StoreIdle}
use Rattle.{act_fits.specs.stage_pins.specs.declared.pin.Pin.TheVariants.AtCompare}
use Rattle.{act_fits.specs.call_stages.specs.declared.stages.Stage.Stage}
use Rattle.{act_fits.specs.call_stages.specs.declared.stages.ActiveCall.ActiveCall, core_invariant.specs.Sweeps.KnowsRelease}
use Rattle.act_fits.specs.kernel_invariant.specs.spk_nums.specs.declared.calls.Make.TheVariants as make
use Rattle.act_fits.specs.act_states.specs.declared.comps.CompAt.TheVariants as comp_at
use Rattle.kernel_history.specs.entry_words.specs.declared.entry.Entry.TheVariants as entry
use Rattle.kernel_history.specs.frame_words.specs.declared.live_word.LiveWord.TheVariants as live_word
use Rattle.kernel_history.specs.Trace as history
pub use Rattle.core_invariant.specs.Components.{HasComp, HasLife, IsRead, ReadIs, KnowsInvoking, KnowsReturning}
pub use Rattle.core_invariant.specs.Reaching.{root_frame, ReliesOn, IsReached, HasFound, IsAtRoot, IsAtLeaf, IsAtEntry}
pub use Rattle.core_invariant.specs.Reaching.{LookIs, LooksUp, own_in, NamesAre, LooksFor, HasPassed, HasFlushed}
pub use Rattle.core_invariant.specs.Reaching.{IsScanned, MayFill, IsSpot, IsUser, HasUser, IsFill, untypes, is_mapping}
pub use Rattle.core_invariant.specs.Reaching.{mapped_frame, IsMapping, IsRemoval, IsClosing, KnowsClose}
pub use Rattle.core_invariant.specs.Acting.{IsTyped, TypesBy, HasMet, HasMetAt, KnowsTyping, IsMade, MakesBy, IsOutside}
pub use Rattle.core_invariant.specs.Acting.{OutsideObject, OutsideComp, OutsideBy, blank_word, HasBlank, HasStored, KnowsMakingAt}
pub use Rattle.core_invariant.specs.Acting.{KnowsMaking, KnowsOutside, charged_tcap, IsCharge, ChargesBy, HasHead, HasHeadAt}
pub use Rattle.core_invariant.specs.Acting.{KnowsTick, IsKilled, KillsBy, SaysLive, HasMetLive, HasClosed, KnowsKillingAt}
pub use Rattle.core_invariant.specs.Acting.{KnowsKilling, IsCompMade, MakesCompBy, MayTake, SaysBlank, ScansNumber, KnowsNumber}
pub use Rattle.core_invariant.specs.Acting.{TakesNumber, HasMetNumber, HasWords, KnowsCompAt, KnowsComp, KnowsTouch, KnowsFlushing}

-- What a call with this plan knows of its act, where its names have led to these and the cores below `upto` were scanned, with their
-- flushes.
abbrev pub KnowsAct : Setting → Trace → ℕ → Call → Plan → List Capability → ℕ → ActOf → Type 0
KnowsAct setup t c call plan found upto (fill_act fill) = IsFill setup t c call plan found upto fill
KnowsAct setup t c call plan found upto (remove_act close cap) = KnowsClose setup t c call plan found close cap
KnowsAct setup t c call plan found upto (type_act typing) = KnowsTyping t c call found typing
KnowsAct setup t c call plan found upto (make_act making) = KnowsMaking setup t c call plan found upto making
KnowsAct setup t c call plan found upto (map_act fill) = IsMapping setup t c call plan found upto fill
KnowsAct setup t c call plan found upto (Outside node entry word) = KnowsOutside setup t c call plan found upto node entry word
KnowsAct setup t c call plan found upto (tick_act charge) = KnowsTick setup t c call charge
KnowsAct setup t c call plan found upto (touch_act m) = KnowsTouch setup t c call m
KnowsAct setup t c call plan found upto (flush_act by) = KnowsFlushing c call by
KnowsAct setup t c call plan found upto (kill_act m) = KnowsKilling setup t c call found m
KnowsAct setup t c call plan found upto (untype_act m) = KnowsUntyping setup t c call found m
KnowsAct setup t c call plan found upto (comp_act m) = KnowsComp setup t c call plan found upto m
KnowsAct setup t c call plan found upto (invoke_act m) = KnowsInvoking (state_after setup t) c call found m
KnowsAct setup t c call plan found upto (return_act m) = KnowsReturning (state_after setup t) c call m
KnowsAct setup t c call plan found upto (share_act p) = KnowsShare setup t c call found p
KnowsAct setup t c call plan found upto (refill_act r) = KnowsRefill setup t c call found r
KnowsAct setup t c call plan found upto (switch_act m) = KnowsSwitch setup t c call found m

-- An act is before its first step; its counts may be acquired; it goes on, since it is within its range.
abbrev pub is_start : ActOf → Bool
is_start act = (phases_of act).first

abbrev pub is_counting : ActOf → Bool
is_counting act = (phases_of act).counting

abbrev pub goes_on : ActOf → Bool
goes_on act = (phases_of act).within

-- The thing for which an act is scanned.
abbrev pub place_aimed : Option Aim → Thing
place_aimed None = PlaceOf 0 0
place_aimed (Some aim) = PlaceOf aim.node aim.entry

abbrev pub scanned_for : ActOf → Thing
scanned_for act = place_aimed (phases_of act).aim

-- What it knows at a scan for the place that it fills: the core words before this one were scanned, and so many flush words; these are
-- scanned where the place is one of a page table.
pub record KnowsScan (setup : Setting) (t : Trace) (c : ℕ) (a : ActiveCall) (at by upto flushes : ℕ) (page : Bool) (act : ActOf) :
    Type 0 where
  pub knows : KnowsAct setup t c a.call (plan_for a.call) a.found flushes act
  pub core : by ≡ c
  pub stamp : stamp_of_act act ≡ at
  pub starts : is_start act ≡ true
  pub past : at < clock setup t
  pub passed : (d : ℕ) → d < upto → d ≢ c → HasPassed setup t (scanned_for act) at d
  pub pages : page ≡ fills_page a.call a.found

abbrev pub KnowsQuiet : Setting → Trace → ℕ → ActiveCall → Quiet → ActOf → Type 0
KnowsQuiet setup t c a (AtCore at core upto page) act = KnowsScan setup t c a at core upto 0 page act
KnowsQuiet setup t c a (AtFlush at upto) act = KnowsScan setup t c a at c setup.cores upto true act

-- What an acquired count was due for.
abbrev pub due_of : Acquired → Due
due_of x = record { frame = x.pin.frame; change = x.change }

-- The frame and the core of a count that is being acquired.
abbrev pub pin_frame : Pin → ℕ
pin_frame (AtLoad frame core) = frame
pin_frame (AtCompare frame core count stamp) = frame

abbrev pub pin_core : Pin → ℕ
pin_core (AtLoad frame core) = core
pin_core (AtCompare frame core count stamp) = core

-- At the compare, the call's last step on the count's word has read there the word that is expected.
pub record HasRead (t : Trace) (c frame core : ℕ) (count : ℤ) (stamp : ℕ) : Type 0 where
  pub own : own_read t c (CountAt frame core) ≡ Some (word_of_count (unheld count stamp))
  pub fits : CountFits (unheld count stamp)

abbrev pub HasLoaded : Trace → ℕ → Pin → Type 0
HasLoaded t c (AtLoad frame core) = Unit {0}
HasLoaded t c (AtCompare frame core count stamp) = HasRead t c frame core count stamp

-- No frame's count is due twice.
abbrev pub AreDuesApart : List Due → Type 0
AreDuesApart [] = Unit {0}
AreDuesApart (d ∷ ds) = All (λ x. d.frame ≢ x.frame) ds × AreDuesApart ds

-- The counts acquired so far are the first that the act changes; this one is the next, and is not among them.
pub record KnowsCount (setup : Setting) (t : Trace) (c : ℕ) (a : ActiveCall) (pin : Pin) (change : ℤ) (act : ActOf) : Type 0 where
  pub knows : KnowsAct setup t c a.call (plan_for a.call) a.found setup.cores act
  pub rest : List Due
  pub due : dues act ≡ map due_of a.counts ++ record { frame = pin_frame pin; change = change } ∷ rest
  pub apart : AreDuesApart (dues act)
  pub core : pin_core pin ≡ c
  pub new : (holds_counts None a.counts).marks (CountAt (pin_frame pin) c) ≡ false
  pub loaded : HasLoaded t c pin
  pub starts : is_counting act ≡ true

-- All counts that the act changes are acquired.
pub record KnowsActing (setup : Setting) (t : Trace) (c : ℕ) (a : ActiveCall) (act : ActOf) : Type 0 where
  pub knows : KnowsAct setup t c a.call (plan_for a.call) a.found setup.cores act
  pub all : dues act ≡ map due_of a.counts
  pub goes : goes_on act ≡ true

-- What a look-up of a target that is to be free knows of what the call has read.
abbrev pub ReadBefore : State → ℕ → Option ℕ → Option ℕ → Next → Type 0
ReadBefore s c reads read (NextName n wanted) = Unit {0}
ReadBefore s c reads read (NextFree target) = ReadIs s c reads read
ReadBefore s c reads read (NextHeld target) = Unit {0}
ReadBefore s c reads read (NextOwn v) = Unit {0}
ReadBefore s c reads read NextNothing = Unit {0}

pub record KnowsLookup (setup : Setting) (t : Trace) (c table : ℕ) (a : ActiveCall) (look : Look) : Type 0 where
  pub looks : LooksFor setup t c table (next_of (plan_for a.call) a.found) look
  pub has_read : ReadBefore (state_after setup t) c (reads_of a.call a.found) a.read (next_of (plan_for a.call) a.found)

-- What a call knows that is to read the word of this component before this look-up of its target.
pub record KnowsReading (setup : Setting) (t : Trace) (c : ℕ) (a : ActiveCall) (f : ℕ) (look : Look) : Type 0 where
  pub target : Target
  pub next : next_of (plan_for a.call) a.found ≡ NextFree target
  pub looks : LooksUp setup t c target look
  pub reads : reads_of a.call a.found ≡ Some f
  pub comp : HasComp (state_after setup t) c f

-- And of its work.
abbrev pub KnowsWork : Setting → Trace → ℕ → ℕ → ActiveCall → Work → Type 0
KnowsWork setup t c table a (Lookup look) = KnowsLookup setup t c table a look
KnowsWork setup t c table a (Read comp look) = KnowsReading setup t c a comp look
KnowsWork setup t c table a (Scan q act) = KnowsQuiet setup t c a q act
KnowsWork setup t c table a (Acquire pin change act) = KnowsCount setup t c a pin change act
KnowsWork setup t c table a (Act act) = KnowsActing setup t c a act

-- What a call knows that is asking whether the component in which its core works lives: it is one that asks so, and where it has loaded
-- the component's word, this has that number and epoch.
abbrev pub KnowsAliveAt : State → ℕ → Alive → Type 0
KnowsAliveAt s c (AtComp comp) = comp ≡ first_of_stack (thread_of s c).stack
KnowsAliveAt s c (AtLive life) = ((comp_of s c).number ≡ life.number) × ((comp_of s c).epoch ≡ life.epoch)

pub record KnowsAlive (s : State) (c : ℕ) (call : Call) (alive : Alive) : Type 0 where
  pub asks : IsTrue (asks_life call)
  pub at : KnowsAliveAt s c alive

-- What a call knows that has entered, asks no more whether its core may act, and is not decided: its core may make the call, its names
-- have led to what it has found, and what it knows of its work.
pub record KnowsUndecided (setup : Setting) (t : Trace) (c table : ℕ) (a : ActiveCall) (work : Work) : Type 0 where
  pub acts : IsTrue (acts (state_after setup t) c a.call)
  pub names : NamesAre setup t c table (plan_for a.call) a.found
  pub knows : KnowsWork setup t c table a work

-- The node of an entry that is still to be stored is relied on, in the call's footprint at a moment of it, and the call is one that
-- changes places.
pub record IsStored (setup : Setting) (t : Trace) (c : ℕ) (call : Call) (node index : ℕ) : Type 0 where
  pub relies : Relies (state_after setup t) c node
  pub footprint : WasAt (IsInFootprint c call (EntryAt node index)) setup t c
  pub places : changes_places call ≡ true

abbrev pub KnowsStore : Setting → Trace → ℕ → Call → Close → Type 0
KnowsStore setup t c call (close_compare node index word core) = ⊥
KnowsStore setup t c call (AtDraw node index) = ⊥
KnowsStore setup t c call (AtStore node index at) = IsStored setup t c call node index

-- The frame whose word is still to be stored is the call's argument, and the word carries no mark.
pub record KnowsUnmark (call : Call) (f word : ℕ) : Type 0 where
  pub changes : changes_frames call ≡ true
  pub argument : is_one_of f (frame_argument call) ≡ true
  pub bare : frame_mark (frame_of_word word) ≡ None
  pub small : word < 2 ^ 64

-- The liveness number whose word is still to be stored is in the call's footprint at a moment of it, and the call is one that changes
-- numbers.
pub record KnowsDead (setup : Setting) (t : Trace) (c : ℕ) (call : Call) (life : CompWord) : Type 0 where
  pub numbers : changes_numbers call ≡ true
  pub footprint : WasAt (IsInFootprint c call (LiveAt life.number)) setup t c

-- The flush whose stamp is still to be stored is the core's own, and its last.
pub record KnowsFlush (t : Trace) (c : ℕ) (call : Call) (by at : ℕ) : Type 0 where
  pub stores : stores_flush call ≡ true
  pub core : by ≡ c
  pub some : 1 ≤ at
  pub small : at < 2 ^ 43
  pub last : flush_of t c ≡ at

-- The number and the frame whose words are still to be stored: the number is in the call's footprint at a moment of it, and both words
-- are spelled.
pub record KnowsLive (setup : Setting) (t : Trace) (c : ℕ) (call : Call) (l live f word : ℕ) : Type 0 where
  pub numbers : changes_numbers call ≡ true
  pub footprint : WasAt (IsInFootprint c call (LiveAt l)) setup t c
  pub bare : live_mark (live_of_word live) ≡ None
  pub small : live < 2 ^ 64
  pub unmark : KnowsUnmark call f word

-- The stack of which words are still to be stored is that of the core's own thread, and the call is one that changes threads. Which thread
-- that is, and that no other core stores there, is told by what the core keeps.
pub record KnowsStack (c : ℕ) (call : Call) (by : ℕ) : Type 0 where
  pub threads : changes_threads call ≡ true
  pub core : by ≡ c

pub record KnowsPlace (c : ℕ) (call : Call) (by comp : ℕ) : Type 0 where
  pub stack : KnowsStack c call by
  pub small : comp < 512

abbrev pub KnowsPush : ℕ → Call → PushOf → Type 0
KnowsPush c call (PushOf.AtStack f core depth comp) = KnowsPlace c call core comp
KnowsPush c call (PushOf.AtThread f core depth) = KnowsStack c call core

-- A pop goes from the depth to the place, by the call of the core alone.
abbrev pub KnowsPop : ℕ → Call → PopOf → Type 0
KnowsPop c call (PopOf.AtThread f core depth) = KnowsStack c call core
KnowsPop c call (PopOf.AtStack f depth) = changes_threads call ≡ true

-- What a call knows that has still this to store, and these counts to commit.
abbrev pub KnowsTail : Setting → Trace → ℕ → Call → List Acquired → Tail → Type 0
KnowsTail setup t c call counts Nothing = Unit {0}
KnowsTail setup t c call counts (Quiesce close) = KnowsStore setup t c call close
KnowsTail setup t c call counts (Unmark f word) = KnowsUnmark call f word
KnowsTail setup t c call counts (StoreDead life stamp) = KnowsDead setup t c call life
KnowsTail setup t c call counts (StoreFlush by at) = KnowsFlush t c call by at
KnowsTail setup t c call counts (Release x) = KnowsUnmark call x.frame x.word × KnowsRelease call counts x
KnowsTail setup t c call counts (StoreLive l live f word) = KnowsLive setup t c call l live f word
KnowsTail setup t c call counts (Push push) = KnowsPush c call push
KnowsTail setup t c call counts (Pop pop) = KnowsPop c call pop
KnowsTail setup t c call counts (Share p) = KnowsShared setup t c call p
KnowsTail setup t c call counts (StoreRunning f core depth old old_depth) = KnowsRunning setup t c call f core old
KnowsTail setup t c call counts (StoreIdle f depth) = KnowsIdle setup t c call f

-- What a call knows at its stage. One that has made no step is in no trace.
abbrev pub KnowsAt : Setting → Trace → ℕ → ℕ → ActiveCall → Stage → Type 0
KnowsAt setup t c table a Enter = ⊥
KnowsAt setup t c table a (Living alive) = KnowsAlive (state_after setup t) c a.call alive
KnowsAt setup t c table a (Undecided work) = KnowsUndecided setup t c table a work
KnowsAt setup t c table a (Decided r drawn tail) = KnowsTail setup t c a.call a.counts tail
KnowsAt setup t c table a (Leave r x) = IsLeave setup t c x

abbrev pub Knows : Setting → Trace → ℕ → ℕ → ActiveCall → Type 0
Knows setup t c table a = KnowsAt setup t c table a a.stage

-- The phase of a call at its stage.
abbrev pub phase_at : Call → Stage → Phase
phase_at call Enter = Out
phase_at call (Living alive) = Open call
phase_at call (Undecided work) = Open call
phase_at call (Decided r drawn tail) = history.Decided call r
phase_at call (Leave r x) = history.Decided call r

-- A count that a call of core c has acquired: it is the core's own, of a frame that is in the call's footprint at a moment of it, and was
-- found within its range; its change is small, and the call is one that changes references.
pub record IsCount (setup : Setting) (t : Trace) (c : ℕ) (call : Call) (x : Acquired) : Type 0 where
  pub counts : IsTrue (counts_references call)
  pub core : x.pin.core ≡ c
  pub fits : CountFits (unheld x.pin.word.count x.pin.word.stamp)
  pub footprint : WasAt (IsInFootprint c call (count_of x)) setup t c
  pub small : IsSmallChange x.change

-- Core c is in this call, has made these steps of it, and has acquired these counts, none twice.
pub record IsIn (setup : Setting) (t : Trace) (c table : ℕ) (a : ActiveCall) : Type 0 where
  pub phase : phase t c ≡ phase_at a.call a.stage
  pub steps : steps_in_call t c ≡ a.steps
  pub knows : Knows setup t c table a
  pub counts : All (IsCount setup t c a.call) a.counts
  pub apart : AreApart a.counts

-- Core c is between calls, or in one.
abbrev pub CallIs : Setting → Trace → ℕ → ℕ → Option ActiveCall → Type 0
CallIs setup t c table None = phase t c ≡ Out
CallIs setup t c table (Some a) = IsIn setup t c table a

-- The core c works where the state says: on its thread, in the component on top of it, with its temporal capability; and has
-- cached, spent, has had back, owes and has counted what the state says, and has its grant.
pub record WorksIn (own : Own) (s : State) (c : ℕ) : Type 0 where
  pub thread : own.thread ≡ (s.core c).thread
  pub depth : own.depth ≡ length (thread_of s c).stack
  pub comp : own.comp ≡ first_of_stack (thread_of s c).stack
  pub table : own.table ≡ (comp_of s c).table
  pub pages : own.pages ≡ (comp_of s c).pages
  pub tcap : own.tcap ≡ (s.core c).tcap
  pub cached : own.cached ≡ (s.core c).cached
  pub owed : own.owed ≡ (s.core c).owed
  pub spent : own.spent ≡ (s.core c).spent
  pub back : own.back ≡ (s.core c).back
  pub grant : own.grant ≡ (s.core c).grant
  pub made : own.made ≡ (s.core c).counted

-- Whether a call has decided a flush whose stamp is still to be stored.
abbrev pub flushes_tail : Tail → Bool
flushes_tail Nothing = false
flushes_tail (Quiesce close) = false
flushes_tail (Unmark f word) = false
flushes_tail (StoreDead life stamp) = false
flushes_tail (Release release) = false
flushes_tail (Push push) = false
flushes_tail (Pop pop) = false
flushes_tail (StoreLive l live f word) = false
flushes_tail (Share p) = false
flushes_tail (StoreRunning f core depth old old_depth) = false
flushes_tail (StoreIdle f depth) = false
flushes_tail (StoreFlush by at) = true

abbrev pub is_flushing : Stage → Bool
is_flushing Enter = false
is_flushing (Living alive) = false
is_flushing (Undecided work) = false
is_flushing (Decided r drawn tail) = flushes_tail tail
is_flushing (Leave r x) = false

abbrev pub flushing_in : Option ActiveCall → Bool
flushing_in None = false
flushing_in (Some a) = is_flushing a.stage

-- A core of the machine after the trace.
pub record CoreIs (setup : Setting) (core : Core) (t : Trace) (c : ℕ) : Type 0 where
  pub fits : IsCore core
  pub number : core.own.core ≡ c
  pub shape : core.own.layout ≡ shape_of setup
  pub limit : core.own.limit ≡ setup.calls
  pub epochs : core.own.epochs ≡ setup.epochs
  pub works : WorksIn core.own (state_after setup t) c
  pub exit : core.own.exit ≡ exit_of t c
  -- its last flush is stored, but for one between the load of the clock and the store
  pub flushed : flushing_in core.active ≡ false → flush_stored t c ≡ flush_of t c
  pub active : CallIs setup t c core.own.table core.active
