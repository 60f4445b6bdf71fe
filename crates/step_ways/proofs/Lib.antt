-- What calls know.
pub mod Users
pub mod Places
-- What a step must show.
pub mod Good
pub mod Flushing
pub mod FlushWords
-- The ways of stepping.
pub mod Loads
pub mod Writes
pub mod Counting
pub mod Draws
pub mod BudgetActs
pub mod Refusals
pub mod OwnChanges
pub mod Keeping
-- The names that are used most outside of this library.
pub use Rattle.step_ways.proofs.{Counting.first_marked, Counting.first_stands, Flushing.open_flushed, Good.spares_other, Good.IsGood}
pub use Rattle.step_ways.proofs.{Good.Spared, Good.SparesBlanks, Good.blank_is, Good.spares_kept, Good.spares_node, Loads.call_is, Loads.inner}
pub use Rattle.step_ways.proofs.{Loads.step_to, Loads.OnlyLooks, Loads.is_active, Loads.loads_on, Loads.next_at, Loads.core_in_call}
pub use Rattle.step_ways.proofs.{Loads.IsOfCall, Loads.core_is, Loads.decides_on, Loads.Lands, Loads.decides_with, Loads.inner_works}
pub use Rattle.step_ways.proofs.{OwnChanges.decides_changing, Places.IsMarked, Places.IsUnmarked, Places.place_reads, Places.node_mark}
pub use Rattle.step_ways.proofs.{Refusals.GoodTook, Refusals.not_spent, Refusals.ticks_at, Refusals.refuses_busy, Refusals.refuses_raced}
pub use Rattle.step_ways.proofs.{Refusals.NobodyWaits, Refusals.raced_leaving, Users.spares_none, Users.users_kept, Writes.same_marks}
pub use Rattle.step_ways.proofs.{Writes.clock_small, Writes.decides_writing}
pub use Rattle.kept_facts.proofs.{◌≡◌, ◌∙◌, ap, sym, subst, ℕ, refl, Some, ◌<◌, [], ◌∷◌, arith, Setting, None, Trace, List, IsSetting, false}
pub use Rattle.kept_facts.proofs.{true, Option, length, state_after, inl, State, Core, Invariant, Bool, ActiveCall, inr, last_left, Reply, Step}
pub use Rattle.kept_facts.proofs.{◌≤◌, Call, if◌then◌else◌, ◌+◌, ◌≢◌, ◌++◌, Undecided, phase, EntryAt, map, false≢true, ◌==◌, holds_counts}
pub use Rattle.kept_facts.proofs.{plan_for, IsTrue, Open, Act, eq-eqb, holds_in, marked_by, Capability, word_of, Word, landed, Move}
pub use Rattle.kept_facts.proofs.{KnowsUndecided, phase_at, ◌^◌, held_by, Kernel, suc, Acquired, holds, settled_by, Decided, rule_of, CountAt}
pub use Rattle.kept_facts.proofs.{stamp, ◌&&◌, Kind, ◌⊎◌, limits_of, All, PlaceOf, LoadOf, LeadsIn, eqb-true, put_same, get_or, holds_at}
pub use Rattle.kept_facts.proofs.{change_of, Found, left_of, due_of, Leads, FrameAt, ◌||◌, Holding, put, ltb, own_pages, IsSome, settled}
pub use Rattle.kept_facts.proofs.{ne_eqb, Stage, LiveAt, zero, Goes, events_of, Slot, Frame, counts_bare, is_one_of, found, Thing, not}
pub use Rattle.kept_facts.proofs.{same_word-other, does, CoreAt, Untype, GoesOn, slice_get, footprint_frames, Out, counted, names_on, IsLegal}
pub use Rattle.kept_facts.proofs.{take, Refusal, IsFrameWord, fits, FrameOf, thread_of, told_of, leb, frame_value, ClockAt, MayReply, RuleMay}
pub use Rattle.kept_facts.proofs.{Tcap, pos, Own, Nothing, mark_in_frame, put_other, Refused, first_of, Thread, comp_in, thread_in, Pair}
pub use Rattle.kept_facts.proofs.{same_same, CompareOf, lt-ltb, Share, StageFits, times_of, unless, FlushAt, CountWord, Value, sound_of, ◌-◌}
pub use Rattle.kept_facts.proofs.{Due, GoesBy, WordIs, last_left-there, opened, times, Comp, NumberOf, comp_of, head_of_word, StoreOf}
pub use Rattle.kept_facts.proofs.{same_word, Untyping, HasRoom, is_some, KnowsTail, cases_word, Target, Blank, eqb-false, refuse, Entry}
pub use Rattle.kept_facts.proofs.{mark_of, calls_of, IsFoundAnd, ℤ, Switch, Tail, rule_after, own_in, begins_in, after_enter, state_decided_in}
pub use Rattle.kept_facts.proofs.{Want, frame_names, is_node, outcome, Holds, Leaf, first_of_stack, ltb-false, length-map, Living, ends_in}
pub use Rattle.kept_facts.proofs.{flushes_in, only, changed, Does, Pages, Table, left_if, string_bytes, HeadWord, MakeComp, Refill, done_by}
pub use Rattle.kept_facts.proofs.{CallIs, FrameWord, counts_on, shape_of, HasReached, named_by, Make, ◌+ℤ◌, Invoke, Kill, next_of, Plan}
pub use Rattle.kept_facts.proofs.{went_with, Enter, Leave, HasFound, count_of_word, Phase, Under, own, reached, to_use, Pleaf, TcapFields, User}
pub use Rattle.kept_facts.proofs.{Retype, FrameKind, ok_first, refused_first, ◌*◌, release_of, Return, Tick, Release, Acquire, Lookup, Scan}
pub use Rattle.kept_facts.proofs.{outcome_left, names_after, ReadsAlike, last_left-here, own_read-here, named, Untyped, PairAt, negsuc}
pub use Rattle.kept_facts.proofs.{CompMaking, Fill, Flush, Outside, Remove, Touch, leads_by, left_may, move_of, as_none, decided_in, WorksIn}
pub use Rattle.kept_facts.proofs.{frame_of_word, plain_exit, TcapOf, decided-inside, IsInFootprint, ways, Change, Place, AtCompare, AtDraw}
pub use Rattle.kept_facts.proofs.{AtStore, spelling, opened_is, cond, dues, CompAt, Switching, UntypingAt, Map, Read, NextFree, told_by}
pub use Rattle.kept_facts.proofs.{KnowsAct, KnowsAt, PlaceIs, live_of_word, StaysSaid, run_of, count_mark, head_mark, own_left, same_thing}
pub use Rattle.kept_facts.proofs.{first_cause, Free, InLimits, swept_of, HeadFits, thread_of_word, Shape, MakingAt, Unmark, at_place, First}
pub use Rattle.kept_facts.proofs.{core_after, Took, option_to_list, NamesAre, list_changed, own_kept, counted_refs, exclusive_elsewhere}
pub use Rattle.kept_facts.proofs.{word_stays, IsAlone, way_to, are_calls_spent, and_then, Quiet, max, rules, length-append, append-nil}
pub use Rattle.kept_facts.proofs.{next_work, KillingAt, Close, LoadComp, Work, keeps, counted_in, holds_head, AreDuesApart, word_of_count}
pub use Rattle.kept_facts.proofs.{LiveWord, SameFor, state_is, own_read-there, changes_in_frame, frame_mark, clock, after_decide, ends_by}
pub use Rattle.kept_facts.proofs.{calls_counted, later, unheld, AtFlush, Owned, Running, IsIn, leb-true, append_assoc, Draw, LoadLive, Pop}
pub use Rattle.kept_facts.proofs.{Push, Quiesce, StoreLive, StoreRunning, WorkStep, Absorbed, IfSome, holds_release, is_done, claimed_by}
pub use Rattle.kept_facts.proofs.{HeadIs, NumberIs, EntryFits, IsUntimed, slot_relies, counters, Represent, MayDecide, WasAt, state_before}
pub use Rattle.kept_facts.proofs.{flushes_by, has_frame, tcap_at, acts, Quiescing, AtCore, Sweep, SweepAt, StoreA, quality_of_word, leb-false}
pub use Rattle.kept_facts.proofs.{ltb-true, took_sweep, SwitchAt, StoreDead, StoreFlush, StoreIdle, of_kind, Second, told_in, Returns}
pub use Rattle.kept_facts.proofs.{found_more, flat_map, holds_tail, KnowsWork, untypes, HasTcap, residue, marks_own, count_in}
pub use Rattle.kept_facts.proofs.{counts_references, word_in, live_mark, at_height, thread_value, begins_at, place_at, state_by, is_live_in}
pub use Rattle.kept_facts.proofs.{CompFields, ThreadFields, Test, Look, end_by, CompareB, Idle, was_stays, act_begun, took_shared, NewObject}
pub use Rattle.kept_facts.proofs.{absorbed, absorbed_in, told_of_step, CountsAt, IsCore, steps_left, Changes, Decides, HasComp, committed}
pub use Rattle.kept_facts.proofs.{holds_comp, MayFill, SparesTcap, Held, plain_begins, exclusive_free, phase-other, end_in, thread_mark}
pub use Rattle.kept_facts.proofs.{ends_at, flush_stored, own_read, target_of, wide_ways, IsSound, only_is, Named, held_in, begins, ends, Relies}
pub use Rattle.kept_facts.proofs.{plain_cap, Grace, Live, tcap_in, with_frame, Delegate, Replenish, Shrink, Transfer, Unmap, stamp_of_change}
pub use Rattle.kept_facts.proofs.{at_after, amount_of, AgainB, PairWork, AddOf, min, set, true≢false, took_share, Load, Mark, Store, NextName}
pub use Rattle.kept_facts.proofs.{Name, stage_move, took, took_at, went, sum_by, count_of, holds_act, holds_share, holds_work, KnowsUnmark}
pub use Rattle.kept_facts.proofs.{KnowsSweep, UntypesBy, word_of_frame, calm_counted, may_keep, phase-own, stamp-kept, frame_argument}
pub use Rattle.kept_facts.proofs.{frames_own, IsJustified, after_return, named_fit, frame_refs, sum_one, InRoot, alone, flushes, outside, Cause}
pub use Rattle.kept_facts.proofs.{or_refuse, Dead, Liveness, Gate, Grow, Part, Ret, credited, marked, in_order, ListA, LoadB, MarkA, StoreB}
pub use Rattle.kept_facts.proofs.{StoreList, get_or-map, vec_capacity, stack_of_word, place_of, le-leb, take_all, reads_of, own_changed}
pub use Rattle.kept_facts.proofs.{Invoking, InvokingAt, ReturningAt, calls_go, end_of, own_decided, IsSomeAnd, none_kept, returned_in}
pub use Rattle.kept_facts.proofs.{holds_thaw, holds_untyping, SumIs, count_shown, holds_making, names_of, CountFits, CompWord, plain_stamp}
pub use Rattle.kept_facts.proofs.{not_exclusive_value, runs_on_own, RepresentCounts, count_at, count_sum, changes_budgets, changes_frames}
pub use Rattle.kept_facts.proofs.{changes_threads, MayFollow, hold_mark, flushes_at, is_in, decision_at, is_frame, frames_of, vacant, Copy}
pub use Rattle.kept_facts.proofs.{Item, CapNames, shown_in, AtEntry, AtRoot, Pin, Thaw, debited, Charge, ListB, LoadA, get_or_past, take_more}
pub use Rattle.kept_facts.proofs.{ThreadFits, drop, put_by, stamp_shown, comp_due_list, comp_dues, Making, Refuses, NextHeld, fresh, move_in}
pub use Rattle.kept_facts.proofs.{started, is_ok, tail_move, option_map, AsBefore, release_entry, ReadIs, goes_on, IsSpot, HasBoth, KnowsPairAt}
pub use Rattle.kept_facts.proofs.{KnowsStoresAt, TurnsHead, read_up, IsQuiet, holds_switching, SaysCount, comp_of_word, core_of_word, FrameFits}
pub use Rattle.kept_facts.proofs.{Closed, Pinned, plain_flush, not_exclusive_head_word, not_exclusive_word, sums_keep, carry_marks}
pub use Rattle.kept_facts.proofs.{others_settled, flush_stored-other, flush_stored-own, stamp-begins, HasRacedHead, IsRemoved, is_slot_in}
pub use Rattle.kept_facts.proofs.{entry_mark, exit_of, state_entered, suits, usable_in, new_grace, place_names, Rule, IsRun, Unused, is_short}
pub use Rattle.kept_facts.proofs.{rank, Decision, StageEnd, CoreEnd, look_move, AtLeaf, acquired, quiet_after, quiet_end, quiet_scan}
pub use Rattle.kept_facts.proofs.{latest_stamp, loads_of, frozen, head, same_list, AtLoad, was_now, ◌/◌, le-ltb, eqb, length-take-le, map-id}
pub use Rattle.kept_facts.proofs.{page_cap, starts, object_dues, object_made, took_refilled, reply_of, UntypingFits, Works, TypingAt, Compare}
pub use Rattle.kept_facts.proofs.{Acquires, Answers, Next, Spot, Nowhere, next_by, took_count, took_scan, took_tail, slice_index, Err, Ok}
pub use Rattle.kept_facts.proofs.{marker_inside, ChargesBy, KnowsComp, KnowsCompAt, holds_killing, holds_shared, IsCount, HasFlushed, LooksUp}
pub use Rattle.kept_facts.proofs.{SharesBy, list_word, IsLookedAt, KnowsUntypingAt, IsThreadWord, core_same_refs, name_parts, word_of_live}
pub use Rattle.kept_facts.proofs.{Hold, counted_rises, counts, spot_on, exclusive_none, not_exclusive_head_value, inside_is, not_inside}
pub use Rattle.kept_facts.proofs.{calls_of-other, calls_of-own, changes_places, raises_clock, frame_at_slot, frames_named, holds_node, HasCalls}
pub use Rattle.kept_facts.proofs.{IsIdle, list_of, flush_of, state_decided, state_returned, grace_refs, IsObjectGood, times_cons, root_slot}
pub use Rattle.kept_facts.proofs.{usable, is_blank, not_blank, Edit, is_empty, is_untyped, IsGuarded, Judged, Vacant, not_vacant, after, Object}
pub use Rattle.kept_facts.proofs.{with_place, are_many, are_unlike, place_in, Obj, Translation, drawn_stamp, core_scan, quiet_next, scan_after}
pub use Rattle.kept_facts.proofs.{scan_end, released, thaw_of, Empty, head_end, again_end, by_alike, by_room, judged, AtComp, open_inj, op_of}
pub use Rattle.kept_facts.specs.core_invariant.specs.{Swept, Claimed}
pub use Rattle.kept_facts.specs.trace_laws.proofs.Carries.{Carries}
unfoldable pub use Rattle.kept_facts.specs.core_invariant.specs.{refs, word_of_head, entry_of_word, word_of_entry, word_of_thread, word_of_stack}
