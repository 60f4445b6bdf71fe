-- Words and what is said of them.
pub mod Sounds
pub mod Residues
pub mod Bare
pub mod Freezing
pub mod ThreadHolds
pub mod Keepings
pub mod ActBares
-- What calls know.
pub mod Markers
-- The names that are used most outside of this library.
pub use Rattle.core_invariant.proofs.{Bare.counts_bare, Bare.as_none, Bare.AsBefore, Bare.none_kept, Bare.core_bare, Bare.IsNotKept}
pub use Rattle.core_invariant.proofs.{Bare.free_value, Bare.own_kept, Bare.same_value, Freezing.release_entry, Freezing.thaw_here}
pub use Rattle.core_invariant.proofs.{Freezing.release_away, Freezing.release_frame, Freezing.thaw_all, Freezing.thaw_from, Freezing.thaws_own}
pub use Rattle.core_invariant.proofs.{Freezing.SameAt, Freezing.release_bare, Markers.marker_inside, Sounds.limits_of, ThreadHolds.IsIdleIn}
pub use Rattle.core_invariant.specs.{◌≡◌, ℕ, refl, Some, ◌<◌, ◌∷◌, [], Setting, Trace, None, List, IsSetting, false, true, Option, state_after}
pub use Rattle.core_invariant.specs.{length, Core, Bool, State, ActiveCall, last_left, Step, Reply, ◌≤◌, Call, ◌≢◌, if◌then◌else◌, ◌+◌, phase}
pub use Rattle.core_invariant.specs.{EntryAt, ◌++◌, Undecided, Open, IsTrue, map, ◌==◌, holds_counts, Act, plan_for, word_of, Word, marked_by}
pub use Rattle.core_invariant.specs.{holds_in, Capability, held_by, phase_at, Move, Kernel, ◌^◌, landed, KnowsUndecided, holds, suc, CountAt}
pub use Rattle.core_invariant.specs.{settled_by, Acquired, Decided, stamp, ◌⊎◌, ◌&&◌, rule_of, left_of, PlaceOf, Kind, All, put, holds_at}
pub use Rattle.core_invariant.specs.{FrameAt, LoadOf, LeadsIn, settled, change_of, Found, get_or, Frame, Stage, due_of, LiveAt, zero, Leads}
pub use Rattle.core_invariant.specs.{◌||◌, Thing, IsSome, Out, FrameOf, CoreAt, ltb, Untype, own_pages, events_of, ClockAt, not, IsLegal, Slot}
pub use Rattle.core_invariant.specs.{counted, Goes, found, Tcap, FlushAt, slice_get, times_of, is_one_of, does, IsFrameWord, fits, GoesOn}
pub use Rattle.core_invariant.specs.{footprint_frames, frame_value, Thread, thread_in, thread_of, pos, Share, Nothing, WordIs, mark_in_frame}
pub use Rattle.core_invariant.specs.{MayReply, Pair, leb, take, Own, Refusal, Comp, told_of, CountWord, Refused, RuleMay, Blank, comp_in}
pub use Rattle.core_invariant.specs.{same_word, mark_of, first_of, NumberOf, head_of_word, CompareOf, ◌-◌, Switch, StageFits, is_node, unless}
pub use Rattle.core_invariant.specs.{Leaf, Pages, Value, Due, is_some, KnowsTail, times, Table, comp_of, StoreOf, MakeComp, Refill, Tail}
pub use Rattle.core_invariant.specs.{GoesBy, Living, Entry, Target, Pleaf, first_of_stack, ℤ, Untyping, Invoke, Kill, HasRoom, Leave}
pub use Rattle.core_invariant.specs.{after_enter, state_decided_in, frame_names, TcapFields, User, refuse, Make, Return, Tick, Acquire, Lookup}
pub use Rattle.core_invariant.specs.{Scan, Enter, CallIs, WorksIn, own_in, begins_in, ends_in, calls_of, Want, IsFoundAnd, Holds, Untyped}
pub use Rattle.core_invariant.specs.{HeadWord, Fill, Flush, Outside, Remove, Retype, Touch, rule_after, Plan, count_of_word, FrameWord}
pub use Rattle.core_invariant.specs.{flushes_in, Phase, changed, outcome, ◌+ℤ◌, release_of, Map, Read, next_of, done_by, shape_of}
pub use Rattle.core_invariant.specs.{IsInFootprint, HasReached, only, named_by, Does, left_if, FrameKind, PairAt, string_bytes, ◌*◌, CompMaking}
pub use Rattle.core_invariant.specs.{UntypingAt, Release, KnowsAt, HasFound, IsAlone, Under, reached, AtCompare, AtDraw, AtStore, cond, CompAt}
pub use Rattle.core_invariant.specs.{Work, went_with, counted_in, KnowsAct, frame_of_word, MayFollow, clock, own, to_use, Place, MakingAt}
pub use Rattle.core_invariant.specs.{names_after, decided_in, live_of_word, counters, MayDecide, head_mark, after_decide, Change, named}
pub use Rattle.core_invariant.specs.{AtFlush, swept_of, HeadFits, negsuc, dues, Unmark, NextFree, move_of, told_by, NamesAre, PlaceIs}
pub use Rattle.core_invariant.specs.{count_mark, own_left, ways, InLimits, Quiet, AtCore, max, KillingAt, Close, LoadComp, Switching}
pub use Rattle.core_invariant.specs.{core_after, Took, is_done, list_changed, claimed_by, residue, are_calls_spent, ends_by, same_thing}
pub use Rattle.core_invariant.specs.{calls_counted, first_cause, Free, Owned, SweepAt, StoreA, Shape, Draw, LoadLive, Pop, Push, Quiesce}
pub use Rattle.core_invariant.specs.{StoreLive, StoreRunning, at_place, First, option_to_list, holds_release, keeps, HasTcap, word_of_count}
pub use Rattle.core_invariant.specs.{LiveWord, count_in, flush_stored, state_before, way_to, alone, state_by, acts, and_then, unheld, Sweep}
pub use Rattle.core_invariant.specs.{CompareB, Running, IsIn, next_work, StoreDead, StoreFlush, StoreIdle, IfSome, SumIs, holds_head}
pub use Rattle.core_invariant.specs.{holds_tail, AreDuesApart, KnowsWork, SparesTcap, NumberIs, changes_in_frame, frame_mark, WasAt, own_read}
pub use Rattle.core_invariant.specs.{ends, tcap_at, Quiescing, Look, later, AgainB, quality_of_word, Load, Mark, Store, NewObject, SwitchAt}
pub use Rattle.core_invariant.specs.{WorkStep, Absorbed, count_of, holds_comp, untypes, HeadIs, EntryFits, count_sum, Represent, thread_value}
pub use Rattle.core_invariant.specs.{begins_at, ends_at, is_in, flushes_by, has_frame, ThreadFields, Replenish, Test, ListA, LoadB, MarkA}
pub use Rattle.core_invariant.specs.{StoreB, StoreList, Idle, took_sweep, of_kind, Second, told_in, CountsAt, IsCore, Returns, found_more}
pub use Rattle.core_invariant.specs.{flat_map, HasComp, committed, holds_act, holds_work, MayFill, Held, counts_references, word_in, live_mark}
pub use Rattle.core_invariant.specs.{at_height, Named, held_in, place_at, begins, is_live_in, Relies, CompFields, Grace, Delegate, Shrink}
pub use Rattle.core_invariant.specs.{Transfer, Unmap, latest_stamp, end_by, Swept, marked, ListB, LoadA, AddOf, act_begun, reads_of}
pub use Rattle.core_invariant.specs.{took_shared, NextName, Name, absorbed, absorbed_in, told_of_step, steps_left, Changes, Decides}
pub use Rattle.core_invariant.specs.{holds_untyping, count_shown, holds_making, holds_share, CoreIs, flushing_in, IsQuiet, KnowsSweep, end_in}
pub use Rattle.core_invariant.specs.{IsJustified, thread_mark, flush_of, flushes_at, after_return, target_of, wide_ways, InRoot, flushes}
pub use Rattle.core_invariant.specs.{plain_cap, Live, Liveness, tcap_in, with_frame, Gate, Grow, Part, Ret, stamp_of_change, at_after}
pub use Rattle.core_invariant.specs.{amount_of, PairWork, min, set, took_share, Invoking, ReturningAt, stage_move, took, took_at, went, sum_by}
pub use Rattle.core_invariant.specs.{newest_of, stamp_in, returned_in, IsCount, KnowsUnmark, UntypesBy, CountFits, word_of_frame, CompWord}
pub use Rattle.core_invariant.specs.{frame_argument, frames_own, exit_of, state_entered, outside, Cause, or_refuse, Dead, Copy, AtEntry, AtRoot}
pub use Rattle.core_invariant.specs.{Pin, Empty, credited, in_order, Charge, vec_capacity, stack_of_word, place_of, own_changed, InvokingAt}
pub use Rattle.core_invariant.specs.{NextHeld, end_of, fresh, own_decided, IsSomeAnd, KnowsCompAt, ReadIs, holds_thaw, MarkIs, IsSpot, HasBoth}
pub use Rattle.core_invariant.specs.{KnowsPairAt, KnowsStoresAt, TurnsHead, read_up, KnowsUntypingAt, names_of, HasThread, holds_switching}
pub use Rattle.core_invariant.specs.{core_of_word, RepresentCounts, count_at, changes_budgets, changes_frames, changes_threads, KeepsTime}
pub use Rattle.core_invariant.specs.{entry_mark, hold_mark, decision_at, state_decided, state_returned, is_frame, frames_of, place_names}
pub use Rattle.core_invariant.specs.{vacant, Object, Item, CapNames, shown_in, AtLeaf, loads_of, Compare, Thaw, debited, AtLoad, ThreadFits}
pub use Rattle.core_invariant.specs.{drop, put_by, stamp_shown, comp_due_list, comp_dues, Making, TypingAt, Refuses, Next, move_in, started}
pub use Rattle.core_invariant.specs.{is_ok, tail_move, option_map, ChargesBy, IsExclusive, holds_killing, holds_shared, goes_on, LooksFor}
pub use Rattle.core_invariant.specs.{LooksUp, StoresA, list_word, AreFrozen, IsLookedAt, is_claimed, SaysCount, comp_of_word, FrameFits, Closed}
pub use Rattle.core_invariant.specs.{Pinned, raises_clock, HasRacedHead, IsRemoved, is_slot_in, root_slot, usable, usable_in, Edit, new_grace}
pub use Rattle.core_invariant.specs.{IsGuarded, Judged, Rule, IsRun, Unused, with_place, is_short, rank, Obj, Decision, StageEnd, CoreEnd}
pub use Rattle.core_invariant.specs.{look_move, acquired, quiet_after, quiet_end, quiet_scan, frozen, released, head, same_list, AtComp}
pub use Rattle.core_invariant.specs.{Claimed, ◌%◌, ◌/◌, eqb, page_cap, starts, object_dues, object_made, took_refilled, reply_of, UntypingFits}
pub use Rattle.core_invariant.specs.{Works, Typing, Acquires, Answers, NextNothing, NextOwn, Spot, Nowhere, CallFits, next_by, took_count}
pub use Rattle.core_invariant.specs.{took_scan, took_tail, slice_index, Err, Ok, KnowsComp, KnowsMakingAt, blank_word, AreApart, HasFlushed}
pub use Rattle.core_invariant.specs.{IsScanned, KnowsClose, HasMarkedA, SharesBy, AreKept, SaysTyped, IsThreadWord, word_of_live, Hold, IsFirst}
pub use Rattle.core_invariant.specs.{changes_places, frame_at_slot, frames_named, MayEnter, holds_node, HasCalls, IsIdle, list_of, linked}
pub use Rattle.core_invariant.specs.{root_at, is_blank, not_blank, Component, is_empty, is_untyped, Vacant, not_vacant, after, are_many}
pub use Rattle.core_invariant.specs.{are_unlike, place_in, Translation, drawn_stamp, core_scan, quiet_next, scan_after, scan_end, thaw_of}
pub use Rattle.core_invariant.specs.{head_end, read_word, again_end, by_alike, by_room, judged, AtLive, Claim, op_of}
pub use Rattle.kernel_history.proofs.{◌∙◌, ap, sym, subst, arith, inl, inr, false≢true, eq-eqb, put_same, eqb-true, ne_eqb, same_word-other}
pub use Rattle.kernel_history.proofs.{last_left-there, put_other, cases_word, same_same, lt-ltb, last_left-here, eqb-false, ltb-false}
pub use Rattle.kernel_history.proofs.{length-map, decided-inside, run_of, own_read-here, spelling, state_is, phase-own, rules, length-append}
pub use Rattle.kernel_history.proofs.{append-nil, own_read-there, leb-true, append_assoc, leb-false, ltb-true, phase-other, true≢false}
pub use Rattle.kernel_history.proofs.{stamp-kept, flush_stored-other, flush_stored-own, get_or-map, le-leb, take_all, inside_is, get_or_past}
pub use Rattle.kernel_history.proofs.{take_more, entered_events, not_inside, calls_of-other, stamp-begins, steps_in_call-own, le-ltb}
pub use Rattle.kernel_history.proofs.{length-take-le, map-id, not_changed, calls_of-own, flush_of-own}
pub use Rattle.act_fits.specs.act_states.proofs.{opened, outcome_left, leads_by, left_may, IsSound, only_is, sum_one, named_fit, frame_refs}
pub use Rattle.act_fits.specs.act_states.proofs.{calls_go, suits, grace_refs, some_inj, IsObjectGood, IsOpen, times_cons}
unfoldable pub use Rattle.core_invariant.specs.{refs, word_of_head, entry_of_word, thread_of_word, word_of_entry, word_of_thread, sum_below, word_of_stack}
