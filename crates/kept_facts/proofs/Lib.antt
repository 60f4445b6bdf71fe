-- What calls know.
pub mod Swept
pub mod KeptReads
pub mod Carries
-- What the words say.
pub mod WordFrames
pub mod Calm
pub mod Claimed
-- Sums of counts.
pub mod CountSums
pub mod FrozenSums
pub mod Few
pub mod Sums
-- Words kept without a mark, and the words of temporal capabilities.
pub mod Tcaps
pub mod Exclusive
pub mod Pairs
pub mod SharesOn
-- The names that proofs above take from here.
-- The names that are used most outside of this library.
pub use Rattle.kept_facts.proofs.Calm.{plain_exit, IsUntimed, plain_begins, calm_counted, counted_rises, plain_stamp, IsCalm, plain_flush, BeginsNone, calm_words}
pub use Rattle.kept_facts.proofs.Calm.{counts, none_stored, plain_time, calm_same, counted_grows, none_flushed, none_time, same_works}
pub use Rattle.kept_facts.proofs.Carries.{names_on, counts_on, own_kept, slot_relies, spot_on, act_on, quiet_frame_on}
pub use Rattle.kept_facts.proofs.CountSums.{counted_refs, counter_once}
pub use Rattle.kept_facts.proofs.Exclusive.{exclusive_elsewhere, exclusive_free, may_keep, not_exclusive_value, runs_on_own, exclusive_none, not_exclusive_head_word}
pub use Rattle.kept_facts.proofs.Exclusive.{not_exclusive_word, exclusive_kept, exclusive_open, node_keeps_none, not_exclusive_head_value, SparesExclusive}
pub use Rattle.kept_facts.proofs.Exclusive.{exclusive_still, exclusive_thread}
pub use Rattle.kept_facts.proofs.Few.{refs_residue}
pub use Rattle.kept_facts.proofs.FrozenSums.{got_before}
pub use Rattle.kept_facts.proofs.KeptReads.{KeepsUsers}
pub use Rattle.kept_facts.proofs.Pairs.{marked_on, left_same}
pub use Rattle.kept_facts.proofs.Sums.{sums_keep, sums_stay}
pub use Rattle.kept_facts.proofs.Swept.{release_swept, HoldsSwept, no_refs}
pub use Rattle.kept_facts.proofs.Tcaps.{TcapOf, tcap_of, is_tcap}
pub use Rattle.kept_facts.proofs.WordFrames.{ReadsAlike, StaysSaid, marks_own, word_stays, SameFor, carry_marks, others_settled, carry_words, reads_alike, own_settled}
pub use Rattle.kept_facts.proofs.WordFrames.{settled_on, hold_marks, hold_words, load_keeps, load_marks, load_words, settled_stays}
pub use Rattle.core_invariant.proofs.{◌≡◌, ◌∙◌, ap, sym, subst, ℕ, refl, Some, ◌<◌, ◌∷◌, [], arith, Setting, None, Trace, List, IsSetting}
pub use Rattle.core_invariant.proofs.{false, true, Option, state_after, length, inl, Core, ActiveCall, State, Bool, inr, last_left, Reply, Step}
pub use Rattle.core_invariant.proofs.{◌≤◌, Call, if◌then◌else◌, ◌≢◌, ◌+◌, phase, Undecided, ◌++◌, EntryAt, false≢true, map, Open, holds_counts}
pub use Rattle.core_invariant.proofs.{IsTrue, ◌==◌, plan_for, Act, marked_by, holds_in, word_of, Word, Capability, eq-eqb, Move, held_by}
pub use Rattle.core_invariant.proofs.{phase_at, ◌^◌, landed, KnowsUndecided, Kernel, holds, suc, Acquired, settled_by, Decided, CountAt, ◌⊎◌}
pub use Rattle.core_invariant.proofs.{stamp, rule_of, limits_of, ◌&&◌, Kind, All, left_of, put_same, PlaceOf, holds_at, LoadOf, eqb-true}
pub use Rattle.core_invariant.proofs.{LeadsIn, put, change_of, get_or, Found, Stage, settled, due_of, FrameAt, Leads, ◌||◌, Frame, LiveAt, zero}
pub use Rattle.core_invariant.proofs.{ltb, own_pages, IsSome, Out, Thing, ne_eqb, Untype, Goes, counts_bare, events_of, Slot, CoreAt, not}
pub use Rattle.core_invariant.proofs.{same_word-other, is_one_of, found, counted, FrameOf, ClockAt, does, GoesOn, slice_get, footprint_frames}
pub use Rattle.core_invariant.proofs.{IsLegal, FlushAt, Nothing, times_of, IsFrameWord, take, Refusal, frame_value, MayReply, fits, thread_of}
pub use Rattle.core_invariant.proofs.{same_same, told_of, leb, Own, Share, WordIs, last_left-there, put_other, RuleMay, Tcap, mark_in_frame}
pub use Rattle.core_invariant.proofs.{Refused, Thread, thread_in, Pair, pos, first_of, comp_in, CompareOf, same_word, lt-ltb, StageFits}
pub use Rattle.core_invariant.proofs.{cases_word, unless, ◌-◌, KnowsTail, CountWord, mark_of, opened, Blank, Comp, Value, StoreOf, Switch, Due}
pub use Rattle.core_invariant.proofs.{Tail, GoesBy, Living, times, is_node, NumberOf, comp_of, head_of_word, Untyping, HasRoom, Leave, is_some}
pub use Rattle.core_invariant.proofs.{Entry, state_decided_in, Target, Leaf, Pages, eqb-false, refuse, MakeComp, Refill, Enter, CallIs}
pub use Rattle.core_invariant.proofs.{begins_in, ends_in, after_enter, calls_of, IsFoundAnd, Table, first_of_stack, ℤ, Invoke, Kill, rule_after}
pub use Rattle.core_invariant.proofs.{WorksIn, own_in, flushes_in, Want, frame_names, outcome, Holds, Pleaf, ltb-false, length-map, Return}
pub use Rattle.core_invariant.proofs.{Tick, Acquire, Lookup, Scan, Plan, done_by, FrameWord, last_left-here, shape_of, Phase, only, changed}
pub use Rattle.core_invariant.proofs.{Does, User, left_if, string_bytes, HeadWord, release_of, Fill, Flush, Outside, Remove, Touch, Release}
pub use Rattle.core_invariant.proofs.{next_of, KnowsAt, count_of_word, IsAlone, HasReached, named_by, FrameKind, ◌*◌, ◌+ℤ◌, CompMaking, Map}
pub use Rattle.core_invariant.proofs.{Read, went_with, HasFound, decided-inside, IsInFootprint, Under, own, reached, to_use, TcapFields}
pub use Rattle.core_invariant.proofs.{Untyped, AtCompare, AtDraw, AtStore, PairAt, CompAt, UntypingAt, outcome_left, names_after, decided_in}
pub use Rattle.core_invariant.proofs.{counted_in, KnowsAct, frame_of_word, own_read-here, clock, after_decide, named, Place, swept_of, negsuc}
pub use Rattle.core_invariant.proofs.{MakingAt, Unmark, Work, leads_by, left_may, move_of, told_by, as_none, PlaceIs, MayDecide, count_mark}
pub use Rattle.core_invariant.proofs.{ways, Change, InLimits, spelling, cond, dues, Switching, NextFree, core_after, Took, is_done, NamesAre}
pub use Rattle.core_invariant.proofs.{live_of_word, run_of, head_mark, own_left, are_calls_spent, same_thing, calls_counted, first_cause, Free}
pub use Rattle.core_invariant.proofs.{AtFlush, HeadFits, thread_of_word, Shape, KillingAt, Close, LoadComp, Pop, Push, Quiesce, StoreLive}
pub use Rattle.core_invariant.proofs.{StoreRunning, at_place, First, option_to_list, keeps, list_changed, phase-own, way_to, alone, ends_by}
pub use Rattle.core_invariant.proofs.{and_then, Quiet, AtCore, IsIn, max, rules, length-append, append-nil, next_work, Draw, LoadLive}
pub use Rattle.core_invariant.proofs.{StoreDead, StoreFlush, StoreIdle, IfSome, holds_release, holds_head, holds_tail, AreDuesApart, claimed_by}
pub use Rattle.core_invariant.proofs.{word_of_count, LiveWord, state_is, own_read-there, counters, changes_in_frame, MayFollow, frame_mark}
pub use Rattle.core_invariant.proofs.{flush_stored, WasAt, state_before, state_by, acts, later, unheld, Owned, Sweep, SweepAt, StoreA, Running}
pub use Rattle.core_invariant.proofs.{leb-true, append_assoc, WorkStep, Absorbed, SumIs, holds_comp, KnowsWork, untypes, HeadIs, NumberIs}
pub use Rattle.core_invariant.proofs.{EntryFits, Represent, ends, flushes_by, has_frame, tcap_at, Quiescing, Test, Look, CompareB}
pub use Rattle.core_invariant.proofs.{quality_of_word, leb-false, ltb-true, took_sweep, Load, Mark, Store, NewObject, SwitchAt, of_kind, Second}
pub use Rattle.core_invariant.proofs.{told_in, CountsAt, IsCore, Returns, found_more, flat_map, committed, count_of, holds_act, holds_work}
pub use Rattle.core_invariant.proofs.{HasTcap, SparesTcap, Held, residue, phase-other, count_in, counts_references, word_in, live_mark}
pub use Rattle.core_invariant.proofs.{at_height, thread_value, begins_at, ends_at, place_at, begins, is_live_in, CompFields, ThreadFields}
pub use Rattle.core_invariant.proofs.{Delegate, Replenish, Shrink, Transfer, Unmap, end_by, AgainB, Idle, AddOf, true≢false, act_begun}
pub use Rattle.core_invariant.proofs.{took_shared, absorbed, absorbed_in, told_of_step, steps_left, Changes, Decides, HasComp, holds_untyping}
pub use Rattle.core_invariant.proofs.{holds_making, holds_share, CoreIs, flushing_in, MayFill, KnowsSweep, end_in, IsJustified, thread_mark}
pub use Rattle.core_invariant.proofs.{after_return, own_read, target_of, wide_ways, IsSound, only_is, Named, held_in, flushes, Relies}
pub use Rattle.core_invariant.proofs.{plain_cap, Grace, Live, tcap_in, with_frame, Gate, Grow, Part, Ret, stamp_of_change, at_after, amount_of}
pub use Rattle.core_invariant.proofs.{ListA, LoadB, MarkA, StoreB, StoreList, PairWork, min, set, reads_of, took_share, NextName, Name}
pub use Rattle.core_invariant.proofs.{stage_move, took, took_at, went, sum_by, returned_in, KnowsUnmark, UntypesBy, word_of_frame, stamp-kept}
pub use Rattle.core_invariant.proofs.{frame_argument, frames_own, flush_of, flushes_at, is_in, named_fit, frame_refs, sum_one, InRoot, outside}
pub use Rattle.core_invariant.proofs.{Cause, or_refuse, Dead, Liveness, Copy, credited, marked, in_order, ListB, LoadA, get_or-map}
pub use Rattle.core_invariant.proofs.{vec_capacity, stack_of_word, place_of, le-leb, take_all, own_changed, Invoking, InvokingAt, ReturningAt}
pub use Rattle.core_invariant.proofs.{calls_go, end_of, fresh, own_decided, IsSomeAnd, AsBefore, none_kept, marker_inside, holds_thaw}
pub use Rattle.core_invariant.proofs.{count_shown, IsCount, IsQuiet, names_of, holds_switching, core_of_word, CountFits, CompWord}
pub use Rattle.core_invariant.proofs.{flush_stored-other, flush_stored-own, RepresentCounts, count_at, count_sum, changes_budgets}
pub use Rattle.core_invariant.proofs.{changes_frames, changes_threads, entry_mark, hold_mark, exit_of, decision_at, state_entered, is_frame}
pub use Rattle.core_invariant.proofs.{frames_of, vacant, Item, CapNames, shown_in, AtEntry, AtRoot, Pin, latest_stamp, Thaw, debited, Charge}
pub use Rattle.core_invariant.proofs.{get_or_past, take_more, ThreadFits, drop, put_by, stamp_shown, comp_due_list, comp_dues, Making, Refuses}
pub use Rattle.core_invariant.proofs.{NextHeld, move_in, started, is_ok, tail_move, option_map, release_entry, KnowsCompAt, ReadIs}
pub use Rattle.core_invariant.proofs.{holds_killing, holds_shared, goes_on, IsSpot, HasBoth, KnowsPairAt, KnowsStoresAt, TurnsHead, read_up}
pub use Rattle.core_invariant.proofs.{KnowsUntypingAt, SaysCount, comp_of_word, FrameFits, Closed, Pinned, inside_is, not_inside}
pub use Rattle.core_invariant.proofs.{calls_of-other, stamp-begins, steps_in_call-own, raises_clock, KeepsTime, HasRacedHead, IsRemoved}
pub use Rattle.core_invariant.proofs.{is_slot_in, state_decided, state_returned, suits, usable_in, new_grace, place_names, Rule, IsRun, Unused}
pub use Rattle.core_invariant.proofs.{is_short, rank, Decision, StageEnd, CoreEnd, look_move, AtLeaf, acquired, quiet_after, quiet_end}
pub use Rattle.core_invariant.proofs.{quiet_scan, loads_of, frozen, Empty, head, same_list, AtLoad, ◌%◌, ◌/◌, le-ltb, eqb, length-take-le}
pub use Rattle.core_invariant.proofs.{map-id, page_cap, starts, object_dues, object_made, took_refilled, reply_of, UntypingFits, Works}
pub use Rattle.core_invariant.proofs.{TypingAt, Acquires, Answers, Next, Spot, Nowhere, CallFits, next_by, took_count, took_scan, took_tail}
pub use Rattle.core_invariant.proofs.{slice_index, Err, Ok, ChargesBy, KnowsComp, blank_word, AreApart, IsExclusive, HasFlushed, LooksFor}
pub use Rattle.core_invariant.proofs.{LooksUp, SharesBy, list_word, AreFrozen, IsLookedAt, HasThread, IsThreadWord, word_of_live, Hold}
pub use Rattle.core_invariant.proofs.{entered_events, not_changed, calls_of-own, IsFirst, changes_places, frame_at_slot, frames_named, MayEnter}
pub use Rattle.core_invariant.proofs.{holds_node, HasCalls, IsIdle, list_of, grace_refs, IsObjectGood, times_cons, root_slot, usable, is_blank}
pub use Rattle.core_invariant.proofs.{not_blank, Edit, is_empty, is_untyped, IsGuarded, Judged, Vacant, not_vacant, after, Object, with_place}
pub use Rattle.core_invariant.proofs.{are_many, are_unlike, place_in, Obj, Translation, drawn_stamp, core_scan, quiet_next, scan_after}
pub use Rattle.core_invariant.proofs.{scan_end, released, thaw_of, head_end, again_end, by_alike, by_room, judged, AtComp, op_of}
pub use Rattle.thread_laws.specs.trace_laws.proofs.{sound_of, refused_first, ok_first, opened_is, was_stays, was_now, open_inj, last_small}
pub use Rattle.kernel_laws.proofs.{Make, Retype, core_same_refs, name_parts}
pub use Rattle.core_invariant.specs.{Invariant.Invariant, Holding.Holding, Knows.Knows}
pub use Rattle.core_invariant.specs.act_states.specs.declared.typings.TypingAt.TheVariants.{Compare}
unfoldable pub use Rattle.core_invariant.specs.{refs, entry_of_word, word_of_head, word_of_entry, word_of_thread, word_of_stack}
