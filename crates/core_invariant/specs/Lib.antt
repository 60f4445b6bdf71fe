-- What the crates above name through this one.
pub use Rattle.act_fits.specs.quality_lists
pub use Rattle.act_fits.specs.call_plans
pub use Rattle.act_fits.specs.stage_look
pub use Rattle.act_fits.specs.stage_pins
pub use Rattle.act_fits.specs.stage_quiet
pub use Rattle.act_fits.specs.stage_thread
pub use Rattle.act_fits.specs.stage_sweep
pub use Rattle.act_fits.specs.stage_tcap
pub use Rattle.act_fits.specs.act_states
pub use Rattle.act_fits.specs.call_stages
pub use Rattle.act_fits
-- Its own.
pub mod Events
pub mod Holding
pub mod CountWords
pub mod Words
pub mod Frozen
pub mod Sweeps
pub mod Threads
pub mod Shares
pub mod Refills
pub mod Components
pub mod Reaching
pub mod Acting
pub mod Knows
pub mod Invariant
-- The names that are used most outside of this library.
pub use Rattle.core_invariant.specs.Acting.{KnowsCompAt, ChargesBy, KnowsComp, KnowsMakingAt, blank_word, MakesBy, MayTake, HasStored, KillsBy, KnowsMaking, OutsideBy}
pub use Rattle.core_invariant.specs.Acting.{SaysBlank, TypesBy}
pub use Rattle.core_invariant.specs.Components.{HasComp, ReadIs, HasLoadedBelow, InvokesBy, below_of, HasLoadedComp, KnowsInvoking, KnowsReturning}
pub use Rattle.core_invariant.specs.CountWords.{newest_of, stamp_in}
pub use Rattle.core_invariant.specs.Events.{decided_in, returned_in}
pub use Rattle.core_invariant.specs.Frozen.{holds_release, holds_untyping, holds_thaw, is_frozen}
pub use Rattle.core_invariant.specs.Holding.{holds_counts, settled_by, settled, keeps, count_of, committed, MarkIs, AreApart, bare_value, nothing, keeps_bare}
pub use Rattle.core_invariant.specs.Invariant.{holds_in, held_by, holds, holds_at, times_of, done_by, counted_in, is_done, holds_tail, SumIs, holds_comp, holds_head}
pub use Rattle.core_invariant.specs.Invariant.{holds_act, holds_work, holds_making, holds_share, count_shown, holds_killing, IsExclusive, holds_shared, holds_heads}
pub use Rattle.core_invariant.specs.Invariant.{holds_stage, IsOfThread, SaysRunning}
pub use Rattle.core_invariant.specs.Knows.{phase_at, KnowsUndecided, due_of, KnowsTail, CallIs, WorksIn, KnowsAt, KnowsAct, AreDuesApart, KnowsWork, CoreIs, flushing_in}
pub use Rattle.core_invariant.specs.Knows.{IsCount, KnowsUnmark, goes_on, KnowsQuiet, ReadBefore, is_flushing, is_start, scanned_for, KnowsLive, KnowsStore, is_counting}
pub use Rattle.core_invariant.specs.Knows.{pin_frame}
pub use Rattle.core_invariant.specs.Reaching.{own_in, HasFound, NamesAre, untypes, MayFill, IsSpot, LooksFor, LooksUp, HasFlushed, IsScanned, KnowsClose, HasUser}
pub use Rattle.core_invariant.specs.Reaching.{HasPassed}
pub use Rattle.core_invariant.specs.Refills.{RefillsBy, KnowsRefillAt}
pub use Rattle.core_invariant.specs.Shares.{list_changed, HasTcap, SparesTcap, HasBoth, KnowsPairAt, KnowsStoresAt, TurnsHead, read_up, StoresA, list_word, HasMarkedA}
pub use Rattle.core_invariant.specs.Shares.{SharesBy, HasSeenB, KnowsShared, StoresB, IsShared, KeepsList, turns_list}
pub use Rattle.core_invariant.specs.Sweeps.{IsQuiet, KnowsSweep, UntypesBy, KnowsUntypingAt, names_of, AreFrozen, IsLookedAt, AreKept, SaysTyped, ThawsFrame, KnowsSwept}
pub use Rattle.core_invariant.specs.Sweeps.{IsSwept, KnowsSweepAt, KnowsSweepScan, KnowsUntyping}
pub use Rattle.core_invariant.specs.Threads.{claimed_by, holds_switching, HasThread, is_claimed, holds_idle, SwitchesBy, IsTop, KnowsIdle, KnowsRunning, KnowsSwitchAt}
pub use Rattle.core_invariant.specs.Words.{IsFrameWord, WordIs, PlaceIs, NumberIs, HeadIs, SaysCount, IsThreadWord}
pub use Rattle.std.specs.Prelude.{◌≡◌, ◌<◌, ◌∷◌, ◌≤◌, ◌≢◌, ◌+◌, if◌then◌else◌, ◌++◌, ◌==◌, ◌^◌, ◌⊎◌, ◌&&◌, ◌||◌, ◌-◌, ◌*◌, ◌+ℤ◌, ◌%◌, ◌/◌}
pub use Rattle.act_fits.specs.act_states.specs.{ℕ, Some, refl, [], Setting, List, None, IsSetting, false, true, Option, length}
pub use Rattle.act_fits.specs.act_states.specs.{Call, Bool, Reply, State, EntryAt, map, IsTrue}
pub use Rattle.act_fits.specs.act_states.specs.{word_of, Word, plan_for, Capability, Move, Kernel, suc, CountAt, Acquired, All}
pub use Rattle.act_fits.specs.act_states.specs.{left_of, rule_of, Kind, PlaceOf, put, get_or, FrameAt, slice_get, LoadOf, LeadsIn, change_of}
pub use Rattle.act_fits.specs.act_states.specs.{Found, Frame, zero, LiveAt, Leads, IsSome, Thing, ltb, FrameOf, CoreAt, own_pages}
pub use Rattle.act_fits.specs.act_states.specs.{ClockAt, not, Slot, counted, found, Tcap, FlushAt, take, does, fits, Thread, thread_in}
pub use Rattle.act_fits.specs.act_states.specs.{thread_of, told_of, pos, MayReply, Pair, leb, Comp, CountWord, Refused, RuleMay, Blank, comp_in}
pub use Rattle.act_fits.specs.act_states.specs.{same_word, first_of, NumberOf, Value, head_of_word, CompareOf, is_node, unless, Leaf}
pub use Rattle.act_fits.specs.act_states.specs.{Pages, is_some, times, Table, comp_of, StoreOf, GoesBy, Entry, Target, Pleaf, first_of_stack, ℤ}
pub use Rattle.act_fits.specs.act_states.specs.{frame_names, TcapFields, User, InLimits, string_bytes, refuse, Want, IsFoundAnd, Holds, Untyped}
pub use Rattle.act_fits.specs.act_states.specs.{HeadWord, rule_after, Plan, count_of_word, FrameWord, changed, outcome, FrameKind}
pub use Rattle.act_fits.specs.act_states.specs.{release_of, next_of, only, named_by, Does, left_if, PairAt, Under, reached, AtCompare, AtDraw}
pub use Rattle.act_fits.specs.act_states.specs.{AtStore, cond, frame_of_word, to_use, Place, names_after, live_of_word, Change, named, Item}
pub use Rattle.act_fits.specs.act_states.specs.{AtFlush, swept_of, HeadFits, IsIn, Shape, negsuc, dues, NextFree, Quiet, AtCore, max}
pub use Rattle.act_fits.specs.act_states.specs.{option_to_list, residue, are_calls_spent, ends_by, same_thing, calls_counted, first_cause, Free}
pub use Rattle.act_fits.specs.act_states.specs.{Owned, SweepAt, StoreA, at_place, First, word_of_count, LiveWord, alone, state_by, acts}
pub use Rattle.act_fits.specs.act_states.specs.{and_then, unheld, Sweep, CompareB, Running, set, next_work, IfSome, ends, tcap_at, Quiescing}
pub use Rattle.act_fits.specs.act_states.specs.{Look, later, AgainB, quality_of_word, EntryFits, flushes_by, has_frame, ThreadFields, Replenish}
pub use Rattle.act_fits.specs.act_states.specs.{Test, ListA, LoadB, MarkA, StoreB, StoreList, Idle, took_sweep, of_kind, Second, flat_map, Held}
pub use Rattle.act_fits.specs.act_states.specs.{Named, held_in, place_at, begins, is_live_in, Relies, CompFields, Grace, Delegate, Shrink}
pub use Rattle.act_fits.specs.act_states.specs.{Transfer, Unmap, Decision, latest_stamp, end_by, Swept, marked, ListB, LoadA, AddOf, place_of}
pub use Rattle.act_fits.specs.act_states.specs.{act_begun, reads_of, took_shared, NextName, Name, slice_index, sum_by, InRoot, flushes}
pub use Rattle.act_fits.specs.act_states.specs.{plain_cap, Live, Liveness, tcap_in, with_frame, Gate, Grow, Part, Ret, stamp_of_change}
pub use Rattle.act_fits.specs.act_states.specs.{at_after, amount_of, PairWork, size_of, min, took_share, IsSomeAnd, Err, CountFits}
pub use Rattle.act_fits.specs.act_states.specs.{word_of_frame, CompWord, outside, Cause, or_refuse, Dead, Copy, CoreEnd, AtEntry, AtRoot, Pin}
pub use Rattle.act_fits.specs.act_states.specs.{Empty, credited, in_order, Charge, vec_capacity, stack_of_word, drop, own_changed, NextHeld}
pub use Rattle.act_fits.specs.act_states.specs.{option_map, Result, core_of_word, is_frame, frames_of, place_names, vacant, Object, How}
pub use Rattle.act_fits.specs.act_states.specs.{CapNames, shown_in, AtLeaf, loads_of, Compare, Thaw, debited, ThreadFits, put_by, stamp_shown}
pub use Rattle.act_fits.specs.act_states.specs.{comp_due_list, comp_dues, Next, comp_of_word, FrameFits, Closed, root_slot, usable, usable_in}
pub use Rattle.act_fits.specs.act_states.specs.{Edit, new_grace, IsGuarded, Judged, Rule, IsRun, Unused, with_place, is_short, rank, Obj}
pub use Rattle.act_fits.specs.act_states.specs.{StageEnd, look_move, acquired, quiet_after, quiet_end, quiet_scan, frozen, released, head}
pub use Rattle.act_fits.specs.act_states.specs.{same_list, AtComp, Claimed, op_of, eqb, page_cap, starts, object_dues, took_refilled}
pub use Rattle.act_fits.specs.act_states.specs.{reply_of, UntypingFits, NextNothing, NextOwn, Spot, Nowhere, MatchOption, word_of_live, Hold}
pub use Rattle.act_fits.specs.act_states.specs.{linked, root_at, is_blank, not_blank, Component, is_empty, is_untyped, Vacant, not_vacant}
pub use Rattle.act_fits.specs.act_states.specs.{after, are_many, are_unlike, place_in, WordOp, Translation, drawn_stamp, core_scan, quiet_next}
pub use Rattle.act_fits.specs.act_states.specs.{scan_after, scan_end, thaw_of, head_end, read_word, again_end, by_alike, by_room, judged}
pub use Rattle.act_fits.specs.act_states.specs.{AtLive, Claim}
pub use Rattle.kernel_history.specs.{state_after, Step, last_left, phase, marked_by, stamp, Out, events_of, IsLegal, is_one_of}
pub use Rattle.kernel_history.specs.{footprint_frames, frame_value, calls_of, mark_in_frame, shape_of, mark_of, Phase, after_enter}
pub use Rattle.kernel_history.specs.{state_decided_in, begins_in, ends_in, flushes_in, IsInFootprint, HasReached, IsAlone, MayFollow, HasCalls}
pub use Rattle.kernel_history.specs.{clock, own, counters, MayDecide, head_mark, after_decide, Represent, count_mark, own_left, ways, word_in}
pub use Rattle.kernel_history.specs.{count_in, flush_stored, state_before, way_to, changes_in_frame, end_in, frame_mark, WasAt, own_read}
pub use Rattle.kernel_history.specs.{count_sum, thread_value, begins_at, ends_at, is_in, RepresentCounts, counts_references, live_mark}
pub use Rattle.kernel_history.specs.{at_height, Ok, IsJustified, thread_mark, flush_of, flushes_at, after_return, target_of, wide_ways}
pub use Rattle.kernel_history.specs.{frame_argument, frames_own, Follows, IsIdle, exit_of, decision_at, state_entered, count_at}
pub use Rattle.kernel_history.specs.{changes_budgets, changes_frames, changes_threads, KeepsTime, entry_mark, hold_mark, list_of, state_decided}
pub use Rattle.kernel_history.specs.{state_returned, Pinned, raises_clock, HasRacedHead, IsRemoved, is_slot_in, FollowsCores, FollowsItems}
pub use Rattle.kernel_history.specs.{decisions_by, IsFirst, boot_word, changes_places, frame_at_slot, frames_named, MayEnter, holds_node}
pub use Rattle.kernel_history.specs.{reply_lines, decisions_of}
pub use Rattle.act_fits.specs.call_stages.specs.{Core, landed, GoesOn, StageFits, HasRoom, move_of, went_with, told_by, Took, core_after}
pub use Rattle.act_fits.specs.call_stages.specs.{absorbed, told_of_step, IsCore, steps_left, Returns, started, told_in, CountsAt, Changes}
pub use Rattle.act_fits.specs.call_stages.specs.{Decides, found_more, absorbed_in, end_of, stage_move, took, took_at, went, fresh, own_decided}
pub use Rattle.act_fits.specs.call_stages.specs.{move_in, ready_of, is_ok, tail_move, begun, CallFits, next_by, took_count, took_scan}
pub use Rattle.act_fits.specs.call_stages.specs.{took_tail}
pub use Rattle.kernel_history.specs.Trace.{Trace, Open}
pub use Rattle.act_fits.specs.call_stages.specs.declared.stages.ActiveCall.{ActiveCall}
pub use Rattle.act_fits.specs.call_stages.specs.declared.stages.Stage.TheVariants.{Undecided, Decided, Living, Leave, Enter}
pub use Rattle.act_fits.specs.call_stages.specs.declared.stages.Stage.{Stage}
pub use Rattle.act_fits.specs.call_stages.specs.declared.stages.Absorbed.{Absorbed}
pub use Rattle.act_fits.specs.act_states.specs.declared.work.Work.TheVariants.{Act, Acquire, Lookup, Scan, Read}
pub use Rattle.act_fits.specs.act_states.specs.declared.work.Act.TheVariants.{Untype, Share, Switch, MakeComp, Refill, Invoke, Kill, Make}
pub use Rattle.act_fits.specs.act_states.specs.declared.work.Act.TheVariants.{Return, Tick, Fill, Flush, Outside, Remove, Retype, Touch, Map}
pub use Rattle.act_fits.specs.act_states.specs.declared.work.WorkStep.TheVariants.{Goes, Refuses, Acquires, Answers}
pub use Rattle.act_fits.specs.act_states.specs.declared.work.Tail.TheVariants.{Nothing, Release, Unmark, Pop, Push, Quiesce, StoreLive}
pub use Rattle.act_fits.specs.act_states.specs.declared.work.Tail.TheVariants.{StoreRunning, StoreDead, StoreFlush, StoreIdle}
pub use Rattle.act_fits.specs.act_states.specs.declared.own.Own.{Own}
pub use Rattle.act_fits.specs.act_states.specs.declared.refusals.Refusal.{Refusal}
pub use Rattle.act_fits.specs.act_states.specs.declared.work.Due.{Due}
pub use Rattle.act_fits.specs.act_states.specs.declared.work.Tail.{Tail}
pub use Rattle.act_fits.specs.act_states.specs.declared.untypings.Untyping.{Untyping}
pub use Rattle.act_fits.specs.act_states.specs.declared.comps.CompMaking.{CompMaking}
pub use Rattle.act_fits.specs.act_states.specs.declared.untypings.UntypingAt.{UntypingAt}
pub use Rattle.act_fits.specs.act_states.specs.declared.comps.CompAt.{CompAt}
pub use Rattle.act_fits.specs.act_states.specs.declared.work.Work.{Work}
pub use Rattle.act_fits.specs.act_states.specs.declared.makings.MakingAt.{MakingAt}
pub use Rattle.act_fits.specs.act_states.specs.declared.kills.KillingAt.{KillingAt}
pub use Rattle.act_fits.specs.act_states.specs.declared.kills.KillingAt.TheVariants.{Close, LoadComp, Draw, LoadLive}
pub use Rattle.act_fits.specs.act_states.specs.declared.switches.Switching.{Switching}
pub use Rattle.act_fits.specs.act_states.specs.declared.makings.MakingAt.TheVariants.{Load, Mark, Store}
pub use Rattle.act_fits.specs.act_states.specs.declared.objects.NewObject.{NewObject}
pub use Rattle.act_fits.specs.act_states.specs.declared.switches.SwitchAt.{SwitchAt}
pub use Rattle.act_fits.specs.act_states.specs.declared.work.WorkStep.{WorkStep}
pub use Rattle.act_fits.specs.act_states.specs.declared.invocations.Invoking.{Invoking}
pub use Rattle.act_fits.specs.act_states.specs.declared.invocations.ReturningAt.{ReturningAt}
pub use Rattle.act_fits.specs.act_states.specs.declared.invocations.InvokingAt.{InvokingAt}
pub use Rattle.act_fits.specs.act_states.specs.declared.makings.Making.{Making}
pub use Rattle.act_fits.specs.act_states.specs.declared.typings.TypingAt.{TypingAt}
pub use Rattle.act_fits.specs.act_states.specs.Objects.{object_made}
pub use Rattle.act_fits.specs.act_states.specs.declared.own.OwnChange.TheVariants.{Works}
pub use Rattle.act_fits.specs.act_states.specs.declared.typings.Typing.{Typing}
pub use Rattle.act_fits.specs.stage_tcap.specs.declared.charge.Charge.TheVariants.{AtLoad}
unfoldable pub use Rattle.act_fits.specs.act_states.specs.{refs, word_of_head, entry_of_word, thread_of_word, word_of_entry, word_of_thread, sum_below}
unfoldable pub use Rattle.act_fits.specs.act_states.specs.{word_of_stack}
