-- The acts of calls, and the counts that they change.
use Rattle.std.specs.Prelude.{◌<◌, ◌&&◌, if◌then◌else◌}
use Rattle.stage_tcap.specs.{ℕ, Bool, true, false, ltb as nat_lt, leb as nat_le, Option, Some, None, List, Capability, cap_of, part_of}
use Rattle.stage_tcap.specs.{Call, Look, Copy, Remove, Shrink, Retype, Unmap, Tick, Gate, Kill, Grow, Flush, Map, Ret, Switch, Transfer}
use Rattle.stage_tcap.specs.{Delegate, Test, Part, Replenish, Make, Nothing as nothing, StageEnd, Shape, ChargeFits, RefillFits, PairFits}
use Rattle.stage_tcap.specs.{Kind, FrameKind, Untyped, User, Kernel, PageFlags}
use Rattle.call_plans.specs.kernel_invariant.specs.kernel_rules.specs.{kept, Cap, found as named, only, plain_cap, has_frame, has_frames}
use Rattle.stage_sweep.specs.stage_quiet.specs.{CloseFits, close_end, close_after, quiet_scan}
use Rattle.stage_sweep.specs.stage_look.specs.{CapNames}
use Rattle.stage_sweep.specs.spk_nums.specs.declared.calls.Call.TheVariants.{Make as make_call, Call as call_gate}
use Rattle.stage_sweep.specs.entry_words.specs.{declared.entry.Entry.Entry}
use Rattle.stage_sweep.specs.stage_quiet.specs.{declared.close.Close.Close, declared.close.Close.TheVariants.AtCompare as close_compare}
use Rattle.stage_sweep.specs.stage_quiet.specs.{declared.close.Close.TheVariants.AtDraw, declared.close.Close.TheVariants.AtStore}
use Rattle.stage_sweep.specs.stage_quiet.specs.{declared.quiet.Quiet.Quiet}
use Rattle.call_plans.specs.declared.plans.Nth.TheVariants.{First, Second, Third, Fourth}
use Rattle.act_states.specs.{declared.own.Own.Own, declared.refusals.Refusal.TheVariants.Raced}
use Rattle.act_states.specs.{declared.refusals.Refusal.TheVariants.OutOfRange, declared.refusals.Refusal.TheVariants.Deep}
use Rattle.act_states.specs.{declared.refusals.Refusal.TheVariants.Bottom, declared.work.Act.Act}
use Rattle.act_states.specs.{declared.work.Act.TheVariants.Fill as fill_act, declared.work.Act.TheVariants.Remove as remove_act}
use Rattle.act_states.specs.{declared.work.Act.TheVariants.Retype as type_act, declared.work.Act.TheVariants.Make as make_act}
use Rattle.act_states.specs.{declared.work.Act.TheVariants.Outside, declared.work.Act.TheVariants.Tick as tick_act}
use Rattle.act_states.specs.{declared.work.Act.TheVariants.Flush as flush_act, declared.work.Act.TheVariants.Kill as kill_act}
use Rattle.act_states.specs.{declared.work.Act.TheVariants.Untype as untype_act, declared.work.Act.TheVariants.Map as map_act}
use Rattle.act_states.specs.{declared.work.Act.TheVariants.MakeComp as comp_act, declared.work.Act.TheVariants.Invoke as invoke_act}
use Rattle.act_states.specs.{declared.work.Act.TheVariants.Return as return_act, declared.work.Act.TheVariants.Switch as switch_act}
use Rattle.act_states.specs.{declared.work.Act.TheVariants.Touch as touch_act, declared.work.Act.TheVariants.Share as share_act}
use Rattle.act_states.specs.{declared.work.Act.TheVariants.Refill as refill_act, declared.work.Work.TheVariants.Scan}
use Rattle.act_states.specs.{declared.work.Work.TheVariants.Act as act_work, declared.work.Tail.TheVariants.Nothing}
use Rattle.act_states.specs.{declared.work.Tail.TheVariants.Quiesce, declared.work.WorkStep.WorkStep}
use Rattle.act_states.specs.{declared.work.WorkStep.TheVariants.Goes, declared.work.WorkStep.TheVariants.Answers, Refusals.refusal_of}
use Rattle.act_states.specs.{WorkSteps.refuse, Fills.FillFits, Fills.took_fill, declared.typings.TypingAt.TheVariants.Load}
use Rattle.act_states.specs.{Typings.TypingFits, Typings.took_typing, declared.objects.NewObject.NewObject, Objects.object_cap}
use Rattle.act_states.specs.{Objects.object_made, declared.makings.MakingAt.TheVariants.Load as make_load, Comps.CompMakingFits}
use Rattle.act_states.specs.{Makings.MakingFits, Ticks.charges, Ticks.took_tick, Refills.refills_at, Refills.took_refill, Shares.took_share}
use Rattle.act_states.specs.{Shares.shares_at, Flushes.flushes, Flushes.took_flush, Touches.TouchFits, Touches.took_touch}
use Rattle.act_states.specs.{declared.kills.KillingAt.TheVariants.LoadComp, Invocations.InvokingFits, Invocations.ReturningFits}
use Rattle.act_states.specs.{declared.switches.Switching.Switching, Switches.SwitchingFits, Kills.KillingFits}
use Rattle.act_states.specs.{declared.untypings.UntypingAt.TheVariants.Load as untype_load, Untypings.UntypingFits}
use Rattle.act_states.specs.{declared.comps.CompAt.CompAt, declared.invocations.InvokingAt.InvokingAt}
use Rattle.act_states.specs.{declared.invocations.ReturningAt.ReturningAt, declared.switches.SwitchAt.SwitchAt}
use Rattle.{stage_sweep.specs.stage_look.specs.declared.look.Found.Found, call_plans.specs.Plans.at_place}
use Rattle.{stage_sweep.specs.frame_words.specs.Frame.frame_of_word, stage_tcap.specs.declared.pair.PairWork.PairWork}
use Rattle.{stage_thread.specs.declared.claim.Claim.Claim}
pub use Rattle.act_states.specs.Dues.{cap_dues, made_dues, killing_dues, invoking_dues, returning_dues}
pub use Rattle.act_states.specs.Phases.{Phases, phases_of, dues, acquires, next_work, act_move, act_ready, act_left, undo, stamp_of_act}
pub use Rattle.act_states.specs.Phases.{stamp_shown, stamp_in, is_draw, close_left}
pub use Rattle.act_states.specs.Taking.{meets_object, meets_kernel, meets_blank, meets_making, marks_if, published, took_making_at}
pub use Rattle.act_states.specs.Taking.{took_making, meets_comp, meets_life, meets_number, meets_live, closes_if, drawn_dead}
pub use Rattle.act_states.specs.Taking.{took_killing_at, took_killing, meets_untyped, meets_untyping, sweep_from, sweeps_if}
pub use Rattle.act_states.specs.Taking.{took_sweep, drawn_untyped, took_untyping_at, took_untyping, maps_kind, maps_frame}
pub use Rattle.act_states.specs.Taking.{maps_word, comp_marks, took_comp_at, took_comp, meets_table, meets_pages, meets_gate}
pub use Rattle.act_states.specs.Taking.{took_invoking_at, took_invoking, meets_below, meets_below_table, meets_below_pages}
pub use Rattle.act_states.specs.Taking.{took_returning_at, took_returning, switch_pages, took_switching_at, took_switching}

-- what an act names is of the machine
abbrev pub ActFits : Shape → Act → Type 0
ActFits s (fill_act fill) = FillFits s fill
ActFits s (remove_act close cap) = CloseFits s close × CapNames s.frames cap
ActFits s (type_act typing) = TypingFits s typing
ActFits s (make_act m) = MakingFits s m
ActFits s (map_act fill) = FillFits s fill × (fill.cap.frame < s.frames)
ActFits s (Outside node entry word) = (node < s.frames) × (entry < 64)
ActFits s (tick_act charge) = ChargeFits s charge
ActFits s (touch_act m) = TouchFits s m
ActFits s (flush_act core) = core < s.cores
ActFits s (kill_act m) = KillingFits s m
ActFits s (untype_act m) = UntypingFits s m
ActFits s (comp_act m) = CompMakingFits s m
ActFits s (invoke_act m) = InvokingFits s m
ActFits s (return_act m) = ReturningFits s m
ActFits s (switch_act m) = SwitchingFits s m
ActFits s (share_act p) = PairFits s p
ActFits s (refill_act r) = RefillFits s r

-- the stamp with which a removal that has drawn it goes on to its store
abbrev pub drawn_by : Close → Option ℕ
drawn_by (close_compare node entry word core) = None
drawn_by (AtDraw node entry) = None
drawn_by (AtStore node entry stamp) = Some stamp

-- what a removal takes from its step, after which it stands here: it is lost, goes on to the draw, or is carried out with the stamp
-- that it has drawn, and has then still to store the entry
abbrev pub took_close : Capability → Close → StageEnd ℕ → WorkStep
took_close cap close StageEnd.Going = Goes (act_work (remove_act close cap))
took_close cap close (StageEnd.Decided r) = Answers nothing (drawn_by close) (Quiesce close)
took_close cap close (StageEnd.Done stamp) = refuse Raced
took_close cap close (StageEnd.Refuse r) = refuse (refusal_of r)

-- a look answers what its name has led to
abbrev pub looked : Option Capability → WorkStep
looked None = refuse Raced
looked (Some k) = Answers (Cap k) None Nothing

-- what an act takes from the word found
abbrev pub took_act : Shape → Act → ℕ → WorkStep
took_act s (fill_act fill) found = took_fill fill found
took_act s (remove_act close cap) found = took_close cap (close_after close found) (close_end close found)
took_act s (type_act typing) found = took_typing typing found
took_act s (make_act m) found = took_making m found
took_act s (map_act fill) found = maps_word fill (frame_of_word found)
took_act s (Outside node entry word) found = refuse OutOfRange
took_act s (tick_act charge) found = took_tick charge found
took_act s (touch_act m) found = took_touch m found
took_act s (flush_act core) found = took_flush core found
took_act s (kill_act m) found = took_killing m found
took_act s (untype_act m) found = took_untyping s m found
took_act s (comp_act m) found = took_comp m found
took_act s (invoke_act m) found = took_invoking m found
took_act s (return_act m) found = took_returning m found
took_act s (switch_act m) found = took_switching m found
took_act s (share_act p) found = took_share p found
took_act s (refill_act r) found = took_refill r found

-- an act starts with its first count, where it is not out of range
abbrev pub starts_if : Bool → ℕ → Act → WorkStep
starts_if within core act = if within then Goes (next_work core 0 act) else refuse OutOfRange

abbrev pub starts : ℕ → Act → WorkStep
starts core act = starts_if (phases_of act).within core act

-- it starts after a scan, if there is one
abbrev pub scans : ℕ → Option Quiet → Act → WorkStep
scans core None act = starts core act
scans core (Some q) act = Goes (Scan q act)

-- a place is filled with a capability; one that is quiescing is scanned for first, and where it is one of a page table, so are the flushes
abbrev pub filling : Capability → Found → Act
filling k f = fill_act (record { node = f.node; entry = f.entry; word = f.word; cap = k })

abbrev pub fills_at : Own → Capability → Bool → Found → WorkStep
fills_at own k page f = scans own.core (quiet_scan (stamp_in f.value) own.core own.layout.cores page) (filling k f)

abbrev pub fills_with : Own → Option Capability → Bool → Option Found → WorkStep
fills_with own None page f = refuse Raced
fills_with own (Some k) page None = refuse Raced
fills_with own (Some k) page (Some f) = fills_at own k page f

-- what a place holds is removed
abbrev pub removing : ℕ → Capability → Found → Act
removing core k f = remove_act (close_compare f.node f.entry f.word core) k

abbrev pub removes_held : ℕ → Found → Entry → WorkStep
removes_held core f Entry.Free = refuse Raced
removes_held core f (Entry.Held k) = Goes (next_work core 0 (removing core k f))
removes_held core f (Entry.Closing by) = refuse Raced
removes_held core f (Entry.Quiescing stamp) = refuse Raced

abbrev pub removes_at : ℕ → Option Found → WorkStep
removes_at core None = refuse Raced
removes_at core (Some f) = removes_held core f f.value

-- a link to the leaf to which a name has led
abbrev pub link_to : Option Capability → Option Capability
link_to None = None
link_to (Some leaf) = Some (plain_cap Kind.Link leaf.frame)

-- a mapping of a frame of this range, with these flags
abbrev pub page_cap : ℕ → PageFlags → Capability
page_cap f w = cap_of Kind.Page f w.0

abbrev pub page_of : Option Capability → ℕ → PageFlags → Option Capability
page_of None f w = None
page_of (Some range) f w = if has_frame (named range) f then Some (page_cap f w) else None

-- the range of these frames, which the range to which a name has led has
abbrev pub part_in : Option Capability → ℕ → ℕ → Option Capability
part_in None f n = None
part_in (Some range) f n = if has_frames (named range) f n then Some (part_of range f n) else None

-- the gate to a component whose word has been read in this epoch; an epoch of 0 is none
abbrev pub gate_if : Bool → ℕ → ℕ → Option Capability
gate_if some f epoch = if some then Some (cap_of Kind.Gate f epoch) else None

abbrev pub gate_to : Option Capability → Option ℕ → Option Capability
gate_to (Some comp) (Some epoch) = gate_if (nat_le 1 epoch) comp.frame epoch
gate_to _ _ = None

-- the capability that a name has led to, with those of its rights that are among these
abbrev pub kept_of : ℕ → Option Capability → Option Capability
kept_of these None = None
kept_of these (Some k) = Some (kept k these)

-- what a call that fills its target puts there, where its names have led to these and it has read this
abbrev pub put_by : Call → List Capability → Option ℕ → Option Capability
put_by (Copy a t b rights) found read = kept_of rights.0 (at_place found First)
put_by (Grow t i l) found read = link_to (at_place found Second)
put_by (Map p v r f w) found read = page_of (at_place found Second) f w
put_by (Gate c t b) found read = gate_to (at_place found First) read
put_by (Part r f n t b) found read = part_in (at_place found First) f n
put_by _ found read = None

-- the frame of the component whose word a call reads before it looks its target up, where its names have led to these
abbrev pub frame_named : Option Capability → Option ℕ
frame_named None = None
frame_named (Some k) = Some k.frame

abbrev pub reads_of : Call → List Capability → Option ℕ
reads_of (Gate c t b) found = frame_named (at_place found First)
reads_of _ found = None

-- whether a name has led to the root of a page table
abbrev pub is_pages : Option Capability → Bool
is_pages None = false
is_pages (Some k) = only Kind.Pages k.kind

-- whether a call fills a place of a page table: one that is quiescing is then free only where all cores have flushed
abbrev pub fills_page : Call → List Capability → Bool
fills_page (Grow t i l) found = is_pages (at_place found First)
fills_page (Map p v r f w) found = true
fills_page _ found = false

-- whether a call removes what its target holds
abbrev pub removes_by : Call → Bool
removes_by (Remove t b) = true
removes_by (Shrink t i) = true
removes_by (Unmap p v) = true
removes_by _ = false

-- a frame is typed, or made untyped again, where it is in the range, which has none past the machine's
abbrev pub typing_to : ℕ → ℕ → FrameKind → Act
typing_to core f Untyped = untype_act (record { frame = f; core = core; at = untype_load })
typing_to core f User = type_act (record { frame = f; kind = User; at = Load })
typing_to core f Kernel = type_act (record { frame = f; kind = Kernel; at = Load })

abbrev pub types_if : Bool → ℕ → ℕ → FrameKind → WorkStep
types_if within core f k = if within then Goes (act_work (typing_to core f k)) else refuse OutOfRange

abbrev pub types_at : Own → Option Capability → ℕ → FrameKind → WorkStep
types_at own None f k = refuse Raced
types_at own (Some range) f k = types_if (has_frame (named range) f && nat_lt f own.layout.frames) own.core f k

-- an object is made in a frame of the range, and its capability put at the target
abbrev pub making : Own → NewObject → ℕ → Found → Act
making own object frame f = make_act (record {
  frame = frame;
  object = object;
  core = own.core;
  fill = record { node = f.node; entry = f.entry; word = f.word; cap = object_cap object frame };
  at = make_load;
})

abbrev pub making_if : Bool → Own → NewObject → ℕ → Found → Act
making_if within own object frame f = if within then making own object frame f else Outside f.node f.entry f.word

abbrev pub makes_in : Own → NewObject → Capability → ℕ → Found → WorkStep
makes_in own object range frame f =
    scans own.core (quiet_scan (stamp_in f.value) own.core own.layout.cores false)
    (making_if (has_frame (named range) frame && nat_lt frame own.layout.frames) own object frame f)

abbrev pub makes_at : Own → Option NewObject → Option Capability → ℕ → Option Found → WorkStep
makes_at own (Some object) (Some range) frame (Some f) = makes_in own object range frame f
makes_at own _ _ frame _ = refuse Raced

-- a frame of the range is mapped in the place that was found; flags past their range never come
abbrev pub mapping : ℕ → PageFlags → Found → Act
mapping frame w f = map_act (record { node = f.node; entry = f.entry; word = f.word; cap = page_cap frame w })

abbrev pub mapping_if : Bool → ℕ → PageFlags → Found → Act
mapping_if within frame w f = if within then mapping frame w f else Outside f.node f.entry f.word

abbrev pub maps_in : Own → Capability → ℕ → PageFlags → Found → WorkStep
maps_in own range frame w f =
    scans own.core (quiet_scan (stamp_in f.value) own.core own.layout.cores true)
    (mapping_if (has_frame (named range) frame && nat_lt frame own.layout.frames) frame w f)

abbrev pub maps_if : Bool → Own → Capability → ℕ → PageFlags → Found → WorkStep
maps_if flags own range frame w f = if flags then maps_in own range frame w f else refuse Raced

abbrev pub maps_at : Own → Option Capability → ℕ → PageFlags → Option Found → WorkStep
maps_at own (Some range) frame w (Some f) = maps_if (nat_lt w.0 4) own range frame w f
maps_at own _ frame w _ = refuse Raced

-- a part of a range is put at the target
abbrev pub part_if : Bool → Capability → Found → Act
part_if within part f = if within then filling part f else Outside f.node f.entry f.word

abbrev pub parts_in : Own → Capability → ℕ → ℕ → Found → WorkStep
parts_in own range frame n f =
    scans own.core (quiet_scan (stamp_in f.value) own.core own.layout.cores false)
    (part_if (has_frames (named range) frame n && nat_lt frame own.layout.frames) (part_of range frame n) f)

abbrev pub parts_at : Own → Option Capability → ℕ → ℕ → Option Found → WorkStep
parts_at own (Some range) frame n (Some f) = parts_in own range frame n f
parts_at own _ frame n _ = refuse Raced

-- a component is made in a frame of the range, and its capability put at the target
abbrev pub comp_cap : ℕ → Capability
comp_cap f = cap_of Kind.Comp f 0

abbrev pub comp_making : Own → ℕ → Capability → Capability → ℕ → Found → Act
comp_making own live table pages frame f = comp_act (record {
  frame = frame;
  table = table.frame;
  pages = pages.frame;
  number = live;
  core = own.core;
  cores = own.layout.cores;
  epochs = own.epochs;
  fill = record { node = f.node; entry = f.entry; word = f.word; cap = comp_cap frame };
  at = CompAt.Load;
})

abbrev pub comp_if : Bool → Own → ℕ → Capability → Capability → ℕ → Found → Act
comp_if within own live table pages frame f =
    if within then comp_making own live table pages frame f else Outside f.node f.entry f.word

abbrev pub comps_in : Own → ℕ → Capability → Capability → Capability → ℕ → Found → WorkStep
comps_in own live range table pages frame f =
    scans own.core (quiet_scan (stamp_in f.value) own.core own.layout.cores false)
    (comp_if (has_frame (named range) frame && nat_lt frame own.layout.frames) own live table pages frame f)

abbrev pub comps_at : Own → ℕ → Option Capability → Option Capability → Option Capability → ℕ → Option Found → WorkStep
comps_at own live (Some range) (Some table) (Some pages) frame (Some f) = comps_in own live range table pages frame f
comps_at own live _ _ _ frame _ = refuse Raced

-- what a `make` does whose names have led to these
abbrev pub made_begun : Own → Make → List Capability → ℕ → Option Found → WorkStep
made_begun own (Make.Comp table pages live) found frame target =
    comps_at own live (at_place found First) (at_place found Third) (at_place found Fourth) frame target
made_begun own what found frame target = makes_at own (object_made what found) (at_place found First) frame target

-- the component to which a name has led is killed; a capability of another kind names none
abbrev pub kills_in : ℕ → Kind → ℕ → WorkStep
kills_in core Kind.Comp f = Goes (act_work (kill_act (record { comp = f; core = core; at = LoadComp })))
kills_in core _ f = refuse Raced

abbrev pub kills_at : Own → Option Capability → WorkStep
kills_at own None = refuse Raced
kills_at own (Some k) = kills_in own.core k.kind k.frame

-- the component of a gate to which a name has led is entered, where the stack is not full; a capability of another kind is no gate
abbrev pub invokes_if : Bool → Own → ℕ → ℕ → WorkStep
invokes_if deep own f epoch =
    if deep then refuse Deep
    else Goes (act_work (invoke_act (record {
      comp = f;
      epoch = epoch;
      thread = own.thread;
      depth = own.depth;
      core = own.core;
      frames = own.layout.frames;
      at = InvokingAt.LoadTable;
    })))

abbrev pub invokes_in : Own → Kind → ℕ → ℕ → WorkStep
invokes_in own Kind.Gate f epoch = invokes_if (nat_le 16 own.depth) own f epoch
invokes_in own _ f epoch = refuse Raced

abbrev pub invokes_at : Own → Option Capability → WorkStep
invokes_at own None = refuse Raced
invokes_at own (Some k) = invokes_in own k.kind k.frame k.arg

-- a core's component is left, where it is not the bottom of the stack
abbrev pub returns_if : Bool → Own → WorkStep
returns_if bottom own =
    if bottom then refuse Bottom
    else Goes (act_work (return_act (record {
      top = own.comp;
      thread = own.thread;
      depth = own.depth;
      core = own.core;
      frames = own.layout.frames;
      at = ReturningAt.LoadBelow;
    })))

abbrev pub returns_at : Own → WorkStep
returns_at own = returns_if (nat_le own.depth 1) own

-- the core switches to the thread and the temporal capability to which names have led
abbrev pub switching : Own → ℕ → ℕ → Switching
switching own f q = record {
  core = own.core;
  frames = own.layout.frames;
  tcap = q;
  old = own.thread;
  old_depth = own.depth;
  old_tcap = own.tcap;
  at = SwitchAt.Claim (Claim.AtLoad f own.core);
}

abbrev pub switches_at : Own → Option Capability → Option Capability → WorkStep
switches_at own (Some thread) (Some tcap) = Goes (act_work (switch_act (switching own thread.frame tcap.frame)))
switches_at own _ _ = refuse Raced

-- what a call of a core does whose names have led to these, which has read this, and whose target, if it has one, was found
abbrev pub act_begun : Own → Call → List Capability → Option ℕ → Option Found → WorkStep
act_begun own (Look a) found read target = looked (at_place found First)
act_begun own (Copy a t b rights) found read target = fills_with own (put_by (Copy a t b rights) found read) false target
act_begun own (Grow t i l) found read target = fills_with own (put_by (Grow t i l) found read) (fills_page (Grow t i l) found) target
act_begun own (Map p v r f w) found read target = maps_at own (at_place found Second) f w target
act_begun own (Remove t b) found read target = removes_at own.core target
act_begun own (Shrink t i) found read target = removes_at own.core target
act_begun own (Unmap p v) found read target = removes_at own.core target
act_begun own (Retype r f k) found read target = types_at own (at_place found First) f k
act_begun own (make_call what range frame table slot) found read target = made_begun own what found frame target
act_begun own Flush found read target = flushes own.core
act_begun own (Tick n) found read target = charges own n
act_begun own (Gate c t b) found read target = fills_with own (put_by (Gate c t b) found read) false target
act_begun own (Kill k) found read target = kills_at own (at_place found First)
act_begun own (call_gate g) found read target = invokes_at own (at_place found First)
act_begun own Ret found read target = returns_at own
act_begun own (Switch h q) found read target = switches_at own (at_place found First) (at_place found Second)
act_begun own (Transfer a b m) found read target = shares_at own.core (PairWork.Transfer m) (at_place found First) (at_place found Second)
act_begun own (Delegate a b m) found read target = shares_at own.core (PairWork.Delegate m) (at_place found First) (at_place found Second)
act_begun own (Test a b) found read target = shares_at own.core PairWork.Test (at_place found First) (at_place found Second)
act_begun own (Part r f n t b) found read target = parts_at own (at_place found First) f n target
act_begun own (Replenish a m) found read target = refills_at own m (at_place found First)
act_begun own _ found read target = refuse Raced
