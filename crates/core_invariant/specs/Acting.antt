-- What a call knows of its act, act by act, said of the state.
use Rattle.act_fits.specs.act_states.specs as low
use low.{Charge, head, HeadFits, word_of_head, ticks_due, ticks_of, is_charging, object_word, last_word, LiveWord, comp_cap, dues, put_by}
use Rattle.std.specs.Prelude.{◌≡◌, ◌≢◌, ◌<◌, ◌≤◌, ◌+◌, ◌++◌, ◌/◌, ◌∷◌, ◌^◌, ◌⊎◌}
use low.{reads_of, removes_by, stamp_of_act, fills_page, comp_is_marked, comp_meets_number, comp_word_at, is_marked}
use low.{ℕ, ℤ, Bool, true, false, map, All, List, [], length, Option, Some, None, IsSome, IsTrue, not}
use low.{is_some, Capability, Setting, Kind, Call, Retype, Make as make_call, Flush, Tick, Kill, Map, Part, Touch, FrameKind, frame_of_word}
use low.{FrameWord, EntryFits, entry_of_word, Entry, CompFits, CountFits, word_of_count, live_of_word, CompWord, EntryAt, CountAt, FrameAt}
use low.{LiveAt, User, Thing, PlaceOf, State, first_of_stack, thread_of, comp_of, comp_in, NumberOf, Dead, translation_of, is_at_page, Slot}
use low.{Named, root_at, Target, Under, InRoot, usable, linked, root_slot, reached, found, fits, IsGuarded, Relies, Push as PushOf}
use low.{Pop as PopOf, Look, AtRoot, AtLeaf, AtEntry, unheld, Pin, AtLoad, Acquired, Plan, Leads, Next, NextName, NextFree, NextHeld}
use low.{NextOwn, NextNothing, next_of, is_killing, is_entering, is_leaving, is_switching, is_typing, has_frame, has_frames, Close}
use low.{AtCompare as close_compare, AtDraw, AtStore, Quiet, AtCore, AtFlush, is_drawing}
use Rattle.kernel_history.specs.{marked_by, frame_mark, live_mark, IsLeave, shape_of, Phase, Out, phase, state_after, own_left, own_read}
use Rattle.kernel_history.specs.{steps_in_call, WasAt, last_left, root_passed, counts_references, changes_places, changes_frames}
use Rattle.kernel_history.specs.{changes_numbers, stores_flush, changes_threads, IsInFootprint, is_one_of, frame_argument, HasReached}
use Rattle.kernel_history.specs.{IsRemoved, clock, stamp, exit_of, flush_of, flush_stored}
use Rattle.act_fits.specs.stage_tcap.specs.{Blank, Comp as comp_kind, Untyped, Kernel as FrameKernel, Make}
use Rattle.act_fits.specs.call_stages.specs.{Core, IsCore}
use Rattle.act_fits.specs.stage_tcap.specs.declared.charge.Charge.TheVariants.{AtLoad as charge_load, AtCompare as charge_compare}
use low.Objects.{object_cap, object_made}
use low.declared.makings.MakingAt.TheVariants.{Load as making_load, Mark, Store, Fill as making_fill}
use low.declared.kills.KillingAt.TheVariants.{LoadComp, LoadLive, Close as kill_close, Draw as kill_draw}
use low.declared.typings.TypingAt.TheVariants.{Load, Compare as type_compare}
use low.declared.work.Act.TheVariants.{Fill as fill_act, Remove as remove_act, Retype as type_act, Make as make_act, Outside}
use low.declared.work.Act.TheVariants.{Tick as tick_act, Flush as flush_act, Kill as kill_act, Untype as untype_act, Map as map_act}
use low.declared.work.Act.TheVariants.{MakeComp as comp_act, Invoke as invoke_act, Return as return_act, Touch as touch_act}
use low.declared.work.Act.TheVariants.{Share as share_act, Switch as switch_act}
use low.declared.work.Work.TheVariants.{Lookup, Read, Scan, Acquire, Act}
use low.declared.work.Tail.TheVariants.{Nothing, Quiesce, Unmark, StoreDead, StoreFlush, Release, StoreLive, Push, Pop, Share, StoreRunning}
use Rattle.kernel_history.specs.Trace.{Trace, Open}
use Rattle.act_fits.specs.call_stages.specs.declared.stages.Stage.TheVariants.{Enter, Undecided, Decided, Leave}
use Rattle.core_invariant.specs.Shares.{KnowsShare, KnowsShared}
use Rattle.core_invariant.specs.Holding.{count_of, holds_counts, AreApart}
use Rattle.core_invariant.specs.Components.{HasComp, HasLife, IsRead, ReadIs, KnowsInvoking, KnowsReturning}
use Rattle.core_invariant.specs.Threads.{KnowsSwitch, KnowsRunning, KnowsIdle}
use Rattle.core_invariant.specs.Sweeps.{KnowsUntyping, KnowsRelease}
use Rattle.core_invariant.specs.Reaching.{root_frame, ReliesOn, IsReached, HasFound, IsAtRoot, IsAtLeaf, IsAtEntry, LookIs, LooksUp, own_in}
use Rattle.core_invariant.specs.Reaching.{NamesAre, LooksFor, HasPassed, HasFlushed, IsScanned, MayFill, IsSpot, IsUser, HasUser, IsFill}
use Rattle.core_invariant.specs.Reaching.{untypes, is_mapping, mapped_frame, IsMapping, IsRemoval, IsClosing, KnowsClose}
use low.{declared.comps.CompAt.CompAt, declared.comps.CompMaking.CompMaking, declared.comps.LastEpoch.LastEpoch}
use low.{declared.makings.MakingAt.MakingAt, declared.makings.Making.Making, declared.objects.NewObject.NewObject}
use low.{declared.touches.Touching.Touching, declared.kills.Killing.Killing, declared.kills.KillingAt.KillingAt, declared.own.Own.Own}
use low.{declared.fills.Fill.Fill, declared.typings.Typing.Typing, declared.typings.TypingAt.TypingAt, declared.work.Act.Act as ActOf}
use low.{declared.work.Work.Work, declared.work.Due.Due, declared.work.Tail.Tail, declared.work.Tail.TheVariants.StoreIdle}
use Rattle.{act_fits.specs.stage_pins.specs.declared.pin.Pin.TheVariants.AtCompare}
use Rattle.{act_fits.specs.call_stages.specs.declared.stages.Stage.Stage}
use Rattle.{act_fits.specs.call_stages.specs.declared.stages.ActiveCall.ActiveCall}
use Rattle.kernel_history.specs.entry_words.specs.declared.entry.Entry.TheVariants as entry
use Rattle.kernel_history.specs.Trace as history
use Rattle.act_fits.specs.stage_thread.specs.declared.stack.Push.TheVariants as push
use Rattle.act_fits.specs.stage_thread.specs.declared.stack.Pop.TheVariants as pop

-- The call types this frame, to another kind than untyped, which the range has to which its name has led.
pub record IsTyped (f : ℕ) (k : FrameKind) (y : Typing) (has : Bool) : Type 0 where
  pub frame : y.frame ≡ f
  pub kind : y.kind ≡ k
  pub types : y.kind ≢ Untyped
  pub within : has ≡ true

abbrev pub TypesBy : Call → List Capability → Typing → Type 0
TypesBy (Retype r f k) (range ∷ []) y = IsTyped f k y (has_frame (found range) f)
TypesBy call ks y = ⊥

-- Before the compare, the call's last step on the frame's word has read there this word, which says that the frame is untyped and not
-- marked.
pub record HasMet (t : Trace) (c f word : ℕ) : Type 0 where
  pub own : own_read t c (FrameAt f) ≡ Some word
  pub shown : FrameWord
  pub says : frame_of_word word ≡ Some shown
  pub kind : shown.kind ≡ Untyped
  pub mark : shown.mark ≡ None

abbrev pub HasMetAt : Trace → ℕ → ℕ → TypingAt → Type 0
HasMetAt t c f Load = Unit {0}
HasMetAt t c f (type_compare word) = HasMet t c f word

pub record KnowsTyping (t : Trace) (c : ℕ) (call : Call) (ks : List Capability) (y : Typing) : Type 0 where
  pub types : TypesBy call ks y
  pub met : HasMetAt t c y.frame y.at

-- The call makes this object in this frame, which the range has to which its first name has led; a thread in the component to which its
-- third name has led.
pub record IsMade (f : ℕ) (made : Option NewObject) (m : Making) (has : Bool) : Type 0 where
  pub frame : m.frame ≡ f
  pub object : made ≡ Some m.object
  pub within : has ≡ true

abbrev pub MakesBy : Call → List Capability → Making → Type 0
MakesBy (make_call what r f u b) (range ∷ ks) m = IsMade f (object_made what (range ∷ ks)) m (has_frame (found range) f)
MakesBy call ks m = ⊥

-- Its frame is not in that range.
pub record IsOutside (made : Option NewObject) (has : Bool) : Type 0 where
  pub object : IsSome made
  pub outside : has ≡ false

abbrev pub OutsideObject : Call → List Capability → Type 0
OutsideObject (make_call what r f u b) (range ∷ ks) = IsOutside (object_made what (range ∷ ks)) (has_frame (found range) f)
OutsideObject call ks = ⊥

abbrev pub OutsideComp : Call → List Capability → Type 0
OutsideComp (make_call (Make.Comp x p live) r f u b) (range ∷ target ∷ table ∷ pages ∷ []) = has_frame (found range) f ≡ false
OutsideComp call ks = ⊥

abbrev pub OutsideBy : Call → List Capability → Type 0
OutsideBy (make_call what r f u b) ks = OutsideObject (make_call what r f u b) ks ⊎ OutsideComp (make_call what r f u b) ks
OutsideBy (Map p v r f w) (pages ∷ range ∷ ks) = has_frame (found range) f ≡ false
OutsideBy (Part r f n u b) (range ∷ ks) = has_frames (found range) f n ≡ false
OutsideBy call ks = ⊥

-- The frame's word as it was found: that of a blank kernel frame which no core has marked.
abbrev pub blank_word : FrameWord
blank_word = record { kind = FrameKernel; object = Blank; mark = None }

pub record HasBlank (t : Trace) (c f word : ℕ) : Type 0 where
  pub own : own_read t c (FrameAt f) ≡ Some word
  pub says : frame_of_word word ≡ Some blank_word

-- The first words of the object are stored.
pub record HasStored (setup : Setting) (t : Trace) (f : ℕ) (object : NewObject) (word upto : ℕ) : Type 0 where
  pub says : frame_of_word word ≡ Some blank_word
  pub stored : (i : ℕ) → i < upto → last_left setup t (EntryAt f i) ≡ object_word object i

abbrev pub KnowsMakingAt : Setting → Trace → ℕ → ℕ → NewObject → MakingAt → Type 0
KnowsMakingAt setup t c f object making_load = Unit {0}
KnowsMakingAt setup t c f object (Mark word) = HasBlank t c f word
KnowsMakingAt setup t c f object (Store word n) = HasStored setup t f object word n
KnowsMakingAt setup t c f object (making_fill word) = HasStored setup t f object word (last_word object + 1)

pub record KnowsMaking (setup : Setting) (t : Trace) (c : ℕ) (call : Call) (plan : Plan) (ks : List Capability) (upto : ℕ) (m : Making) :
    Type 0 where
  pub spot : IsSpot setup t c plan ks upto m.fill.node m.fill.entry m.fill.word
  pub makes : MakesBy call ks m
  pub core : m.core ≡ c
  pub cap : m.fill.cap ≡ object_cap m.object m.frame
  pub at : KnowsMakingAt setup t c m.frame m.object m.at

pub record KnowsOutside (setup : Setting) (t : Trace) (c : ℕ) (call : Call) (plan : Plan) (ks : List Capability)
    (upto node index word : ℕ) :
    Type 0 where
  pub spot : IsSpot setup t c plan ks upto node index word
  pub outside : OutsideBy call ks

-- The call charges to the temporal capability of its core the ticks that it asks for and those that the core owes.
abbrev pub charged_tcap : Charge → ℕ
charged_tcap (charge_load f ticks) = f
charged_tcap (charge_compare f ticks budget version) = f

pub record IsCharge (s : State) (c n : ℕ) (charge : Charge) : Type 0 where
  pub tcap : charged_tcap charge ≡ (s.core c).tcap
  pub ticks : ticks_of charge ≡ ticks_due (s.core c).owed n

abbrev pub ChargesBy : State → ℕ → Call → Charge → Type 0
ChargesBy s c (Tick n) charge = IsCharge s c n charge
ChargesBy s c call charge = ⊥

-- Before the compare, the call's last step on the head has read there the head that is expected, which no core has marked.
pub record HasHead (t : Trace) (c f budget version : ℕ) : Type 0 where
  pub own : own_read t c (EntryAt f 0) ≡ Some (word_of_head (head budget version))
  pub fits : HeadFits (head budget version)

abbrev pub HasHeadAt : Trace → ℕ → Charge → Type 0
HasHeadAt t c (charge_load f ticks) = Unit {0}
HasHeadAt t c (charge_compare f ticks budget version) = HasHead t c f budget version

pub record KnowsTick (setup : Setting) (t : Trace) (c : ℕ) (call : Call) (charge : Charge) : Type 0 where
  pub charges : ChargesBy (state_after setup t) c call charge
  pub at : HasHeadAt t c charge

-- The call kills the component to which its name has led.
pub record IsKilled (f : ℕ) (comp : Capability) : Type 0 where
  pub kind : comp.kind ≡ comp_kind
  pub frame : f ≡ comp.frame

abbrev pub KillsBy : Call → List Capability → ℕ → Type 0
KillsBy (Kill name) (comp ∷ []) f = IsKilled f comp
KillsBy call ks f = ⊥

-- The number's word as it was found says that it is live in that epoch.
pub record SaysLive (life : CompWord) (word : ℕ) : Type 0 where
  pub frame : ℕ
  pub says : live_of_word word ≡ Some (LiveWord.Live life.epoch frame)

-- Before the compare the call's last step on the number's word has read this word there.
pub record HasMetLive (setup : Setting) (t : Trace) (c f : ℕ) (life : CompWord) (word : ℕ) : Type 0 where
  pub has_life : HasLife (state_after setup t) f life
  pub own : own_read t c (LiveAt life.number) ≡ Some word
  pub live : SaysLive life word

pub record HasClosed (setup : Setting) (t : Trace) (f : ℕ) (life : CompWord) (word : ℕ) : Type 0 where
  pub has_life : HasLife (state_after setup t) f life
  pub live : SaysLive life word

abbrev pub KnowsKillingAt : Setting → Trace → ℕ → ℕ → KillingAt → Type 0
KnowsKillingAt setup t c f LoadComp = Unit {0}
KnowsKillingAt setup t c f (LoadLive life) = HasLife (state_after setup t) f life
KnowsKillingAt setup t c f (kill_close life word) = HasMetLive setup t c f life word
KnowsKillingAt setup t c f (kill_draw life word) = HasClosed setup t f life word

pub record KnowsKilling (setup : Setting) (t : Trace) (c : ℕ) (call : Call) (ks : List Capability) (m : Killing) : Type 0 where
  pub kills : KillsBy call ks m.comp
  pub core : m.core ≡ c
  pub comp : HasComp (state_after setup t) c m.comp
  pub at : KnowsKillingAt setup t c m.comp m.at

-- The call makes this component in this frame, which the range has to which its first name has led, with the table and the pages to which
-- its third and its fourth have led.
pub record IsCompMade (f live : ℕ) (own_table own_pages : Capability) (m : CompMaking) (has : Bool) : Type 0 where
  pub frame : m.frame ≡ f
  pub number : m.number ≡ live
  pub table : m.table ≡ own_table.frame
  pub pages : m.pages ≡ own_pages.frame
  pub within : has ≡ true

abbrev pub MakesCompBy : Call → List Capability → CompMaking → Type 0
MakesCompBy (make_call (Make.Comp x p live) r f u b) (range ∷ target ∷ table ∷ pages ∷ []) m =
    IsCompMade f live table pages m (has_frame (found range) f)
MakesCompBy call ks m = ⊥

-- The number's word as it was found says that it is free, or dead and scanned so far, and which epoch was its last.
abbrev pub MayTake : Setting → Trace → ℕ → ℕ → ℕ → ℕ → Option LiveWord → Type 0
MayTake setup t c l last upto None = ⊥
MayTake setup t c l last upto (Some LiveWord.Free) = 0 ≡ last
MayTake setup t c l last upto (Some (LiveWord.Live e f)) = ⊥
MayTake setup t c l last upto (Some (LiveWord.Closing e by)) = ⊥
MayTake setup t c l last upto (Some (LiveWord.Dead e x)) = (e ≡ last) × IsScanned setup t c (NumberOf l) x upto

-- The frame's word as it was found is that of a blank kernel frame which no core has marked.
abbrev pub SaysBlank : ℕ → Type 0
SaysBlank word = frame_of_word word ≡ Some blank_word

-- At a scan for the number: the call's last step on its word has read there that it is dead since the stamp, and the cores before this one
-- were scanned.
pub record ScansNumber (setup : Setting) (t : Trace) (c l : ℕ) (last : LastEpoch) (x by upto : ℕ) : Type 0 where
  pub own : own_read t c (LiveAt l) ≡ Some last.word
  pub says : live_of_word last.word ≡ Some (LiveWord.Dead last.epoch x)
  pub core : by ≡ c
  pub was_dead : WasAt (λ s. s.number l ≡ Dead last.epoch) setup t c
  pub scanned : IsScanned setup t c (NumberOf l) x upto

abbrev pub KnowsNumber : Setting → Trace → ℕ → ℕ → LastEpoch → Quiet → Type 0
KnowsNumber setup t c l last (AtCore x by upto page) = ScansNumber setup t c l last x by upto
KnowsNumber setup t c l last (AtFlush x upto) = ⊥

-- The number may be taken, in an epoch that it has.
pub record TakesNumber (setup : Setting) (t : Trace) (c l epochs : ℕ) (last : LastEpoch) : Type 0 where
  pub may : MayTake setup t c l last.epoch setup.cores (live_of_word last.word)
  pub more : last.epoch < epochs

-- Before the compare the call's last step on the number's word has read there the word that is expected.
pub record HasMetNumber (setup : Setting) (t : Trace) (c l epochs : ℕ) (last : LastEpoch) : Type 0 where
  pub takes : TakesNumber setup t c l epochs last
  pub own : own_read t c (LiveAt l) ≡ Some last.word

-- Afterwards the first words of the component are stored.
pub record HasWords (setup : Setting) (t : Trace) (f : ℕ) (words : ℕ → ℕ) (upto : ℕ) : Type 0 where
  pub stored : (i : ℕ) → i < upto → last_left setup t (EntryAt f i) ≡ words i

abbrev pub KnowsCompAt : Setting → Trace → ℕ → CompMaking → CompAt → Type 0
KnowsCompAt setup t c m CompAt.Load = Unit {0}
KnowsCompAt setup t c m (CompAt.Mark word) = HasBlank t c m.frame word
KnowsCompAt setup t c m (CompAt.LoadLive word) = SaysBlank word
KnowsCompAt setup t c m (CompAt.Scan word last q) = SaysBlank word × KnowsNumber setup t c m.number last q
KnowsCompAt setup t c m (CompAt.Close word last) = SaysBlank word × HasMetNumber setup t c m.number m.epochs last
KnowsCompAt setup t c m (CompAt.Store word last n) =
    SaysBlank word × TakesNumber setup t c m.number m.epochs last × HasWords setup t m.frame (comp_word_at m (last.epoch + 1)) n
KnowsCompAt setup t c m (CompAt.Fill word last) =
    SaysBlank word × TakesNumber setup t c m.number m.epochs last × HasWords setup t m.frame (comp_word_at m (last.epoch + 1)) 3

pub record KnowsComp (setup : Setting) (t : Trace) (c : ℕ) (call : Call) (plan : Plan) (ks : List Capability) (upto : ℕ) (m : CompMaking) :
    Type 0 where
  pub spot : IsSpot setup t c plan ks upto m.fill.node m.fill.entry m.fill.word
  pub makes : MakesCompBy call ks m
  pub core : m.core ≡ c
  pub epochs : m.epochs ≡ setup.epochs
  pub cap : m.fill.cap ≡ comp_cap m.frame
  pub at : KnowsCompAt setup t c m m.at

-- A touch is of a page of the core's own pages: what the core has cached of it is known, and its entry is looked up, unless the first
-- load answers.
pub record KnowsTouch (setup : Setting) (t : Trace) (c : ℕ) (call : Call) (m : Touching) : Type 0 where
  pub call_is : call ≡ Touch m.page
  pub root : m.pages ≡ (comp_of (state_after setup t) c).pages
  pub all : m.frames ≡ setup.frames
  pub known : m.cached ≡ translation_of ((state_after setup t).core c).cached m.pages m.page
  pub first : is_some m.cached ≡ true → is_at_page m.look ≡ false
  pub looks : LooksUp setup t c (Under (root_at m.pages) m.page) m.look

-- A flush is of the translations of the core itself.
pub record KnowsFlushing (c : ℕ) (call : Call) (by : ℕ) : Type 0 where
  pub call_is : call ≡ Flush
  pub core : by ≡ c
