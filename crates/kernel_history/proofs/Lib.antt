-- Traces, step by step.
pub mod Names
pub mod Steps
pub mod Open
-- A legal trace is a run.
pub mod Events
pub mod Inside
-- Marks.
pub mod Markings
pub mod OwnCounts
-- What the discipline permits is what the edits of calls need.
mod Columns
-- Laws.
pub mod Races
pub mod Laws
-- Counters.
pub mod Counters
-- The start.
pub mod Sums
-- Worked examples, which the checker computes.
pub mod Replies
pub mod SeveralCores
pub mod Texts
pub mod Computed
pub mod Refused
pub mod Unjustified
-- The names that are used most outside of this library.
pub use Rattle.kernel_history.proofs.{Computed.may_follow, Computed.neither, Computed.none, Counters.all_counters, Counters.counter_all}
pub use Rattle.kernel_history.proofs.{Events.run_of, Events.state_is, Events.entered_events, Events.before_is, Events.entered_run}
pub use Rattle.kernel_history.proofs.{Events.entered_phase, Events.phase_is, Events.decided_run, Events.decided_events, Events.entry_apart}
pub use Rattle.kernel_history.proofs.{Inside.decided-inside, Inside.inside_is, Inside.entered-inside, Laws.not_inside, Laws.not_changed}
pub use Rattle.kernel_history.proofs.{Names.same_word-other, Names.cases_word, Names.same_word-same, Steps.last_left-there}
pub use Rattle.kernel_history.proofs.{Steps.last_left-here, Steps.own_read-here, Steps.phase-own, Steps.phase-other, Steps.own_read-there}
pub use Rattle.kernel_history.proofs.{Steps.stamp-kept, Steps.calls_of-other, Steps.flush_stored-other, Steps.flush_stored-own}
pub use Rattle.kernel_history.proofs.{Steps.stamp-begins, Steps.calls_of-own, Steps.flush_of-own, Steps.steps_in_call-own, Steps.own_left-here}
pub use Rattle.kernel_history.proofs.{Steps.exit_of-other, Steps.own_read-other, Steps.stamp-ends, Steps.exit_of-own, Steps.flush_of-other}
pub use Rattle.kernel_history.proofs.{Sums.sum_more, Sums.sum_none, Sums.times_append, Unjustified.carried_out, Unjustified.not_permitted}
pub use Rattle.kernel_history.specs.{◌≡◌, ℕ, refl, ◌<◌, Some, ◌∷◌, [], None, Setting, List, true, false, Option, IsSetting, state_after, length}
pub use Rattle.kernel_history.specs.{Bool, Call, ◌≤◌, State, Step, Reply, ◌++◌, ◌+◌, ◌≢◌, last_left, if◌then◌else◌, phase, EntryAt, ◌==◌}
pub use Rattle.kernel_history.specs.{IsTrue, map, Word, word_of, Capability, marked_by, Kernel, suc, Move, ◌^◌, IsLegal, ◌⊎◌, CountAt, ◌&&◌}
pub use Rattle.kernel_history.specs.{Kind, get_or, stamp, rule_of, left_of, All, PlaceOf, put, Frame, FrameAt, zero, Out, LiveAt, string_bytes}
pub use Rattle.kernel_history.specs.{Found, ◌||◌, change_of, LoadOf, take, slice_get, Thing, not, ClockAt, events_of, CoreAt, ltb, FlushAt}
pub use Rattle.kernel_history.specs.{after_enter, Tcap, IsSome, found, FrameOf, Phase, Thread, Slot, MayReply, thread_in, counted, times, Comp}
pub use Rattle.kernel_history.specs.{Blank, thread_of, ◌-◌, does, is_some, is_one_of, frame_value, Decided, fits, leb, pos, cond, Value}
pub use Rattle.kernel_history.specs.{same_word, footprint_frames, mark_in_frame, Leaf, Pages, Untyped, Table, comp_in, Nothing, CompareOf}
pub use Rattle.kernel_history.specs.{CountWord, RuleMay, Holds, NumberOf, Pleaf, User, told_of, ◌*◌, state_before, is_node, TcapFields, comp_of}
pub use Rattle.kernel_history.specs.{first_of_stack, FrameKind, StoreOf, MayFollow, mark_of, Place, frame_names, first_of, Entry, MayDecide}
pub use Rattle.kernel_history.specs.{calls_of, unless, ends_in, Target, changed, ℤ, shape_of, begins_in, Want, IsFoundAnd, HeadWord, ◌+ℤ◌}
pub use Rattle.kernel_history.specs.{state_decided_in, named_by, drop, FrameWord, clock, flushes_in, after_decide, reached, Does, outcome, Free}
pub use Rattle.kernel_history.specs.{flat_map, IsAlone, HasReached, state_entered, Under, only, Change, Retype, Shape, IsInFootprint, state_by}
pub use Rattle.kernel_history.specs.{named, Quiescing, left_if, own, to_use, Tick, option_to_list, frame_of_word, residue, counters, is_in}
pub use Rattle.kernel_history.specs.{own_left, ways, after, head_mark, tcap_at, tcap_in, InLimits, HeadFits, Running, IsIn, max, negsuc}
pub use Rattle.kernel_history.specs.{count_in, Represent, count_mark, begins_at, flush_stored, state_decided, state_returned, alone}
pub use Rattle.kernel_history.specs.{are_calls_spent, ends_by, LiveWord, count_sum, ends_at, way_to, Named, ends, has_frame, same_thing}
pub use Rattle.kernel_history.specs.{calls_counted, acts, and_then, first_cause, CompFields, ThreadFields, Map, Idle, AddOf, set, reverse}
pub use Rattle.kernel_history.specs.{IfSome, word_in, WasAt, own_read, Event, IsRun, Core, Grace, Liveness, Kill, Switch, EntryFits}
pub use Rattle.kernel_history.specs.{RepresentCounts, count_at, changes_in_frame, frame_mark, thread_value, flushes_at, after_return, held_in}
pub use Rattle.kernel_history.specs.{Judged, Replenish, Test, plain_phase, end_in, KeepsTime, at_height, flush_of, target_of, wide_ways}
pub use Rattle.kernel_history.specs.{flushes_by, is_live_in, place_names, Relies, Live, Delegate, Flush, Look, Remove, Shrink, Transfer, Unmap}
pub use Rattle.kernel_history.specs.{CoreEnd, Ok, Held, counts_references, with_decision, IsJustified, live_mark, exit_of, decision_at, InRoot}
pub use Rattle.kernel_history.specs.{place_at, begins, Fill, Rule, plain_cap, Dead, Object, with_frame, Gate, Grow, Part, Ret, Touch}
pub use Rattle.kernel_history.specs.{slice_index, with_entry, frame_argument, frames_own, hold_mark, thread_mark, list_of, flushes, IsGuarded}
pub use Rattle.kernel_history.specs.{vacant, start, Copy, Translation, min, sum_by, option_map, Result, Err, CountFits, CompWord}
pub use Rattle.kernel_history.specs.{changes_frames, with_return, MayEnter, holds_node, usable, outside, Cause, or_refuse, outstanding}
pub use Rattle.kernel_history.specs.{Decision, Item, vec_capacity, ThreadFits, ◌/◌, codes, IsSomeAnd, FrameFits, Closed, KeepsDiscipline}
pub use Rattle.kernel_history.specs.{changes_budgets, changes_threads, AreFrame, IsRemoved, is_slot_in, entry_mark, awaits_flushes, tables_of}
pub use Rattle.kernel_history.specs.{decisions_of, usable_in, owed_by, is_frame, Edit, frames_of, new_grace, core_names, number_names, Vacant}
pub use Rattle.kernel_history.specs.{of_kind, Decides, Enters, Returns, Limits, Unused, with_place, op_of, IsShape, ◌%◌, eqb, Pinned, IsFirst}
pub use Rattle.kernel_history.specs.{boot_word, call_in, raises_clock, SaysPlace, frame_at_slot, frames_named, HasRacedHead, IsIdle, root_slot}
pub use Rattle.kernel_history.specs.{Component, Pop, Push, with_tcap, with_thread, ticks, translation_of, is_short, whole_copy, place_in, Obj}
pub use Rattle.kernel_history.specs.{StageEnd, Hold, Unheld, KeepsMarked, changes_places, GraceIs, FollowsCores, HasCalls, IfNot, asked_of}
pub use Rattle.kernel_history.specs.{wide_way_to, linked, root_at, epoch_of, is_blank, not_blank, moved, running, with_budget, IsGood}
pub use Rattle.kernel_history.specs.{is_paging, asks_life, is_empty, is_untyped, not_vacant, phase_of, with_core, are_many, are_unlike, cap_of}
pub use Rattle.kernel_history.specs.{part_of, Return, QualityWord, ThreadWord, Claimed}
pub use Rattle.kernel_rules.proofs.{◌∙◌, ap, sym, subst, arith, inl, inr, false≢true, eq-eqb, put_same, eqb-true, ne_eqb, put_other, lt-ltb}
pub use Rattle.kernel_rules.proofs.{eqb-false, Make, length-map, true≢false, append_assoc, append-nil, ltb-false, length-append, ltb-true}
pub use Rattle.kernel_rules.proofs.{leb-true, rules, le-leb, leb-false, get_or-map, take_more, le-ltb, length-set, get_or-set_same, take_all}
pub use Rattle.kernel_rules.proofs.{IfFound, and_from, map-append, get_or_past, get_or-set_other, length-take-le, map-id, reverse-append}
pub use Rattle.word_map.proofs.{same_same, has_places}
pub use Rattle.tcap_words.proofs.HeadLemmas.{spelling}
unfoldable pub use Rattle.kernel_history.specs.{refs, entry_of_word, word_of_entry, sum_below, head_of_word, word_of_head, count_of_word, place_of}
unfoldable pub use Rattle.kernel_history.specs.{word_of_count, two_cores, live_of_word, thread_of_word, lines_below, quality_of_word, word_of_thread}
unfoldable pub use Rattle.kernel_history.specs.{word_of_frame, node_refs, word_of_live, stack_of_word, comp_of_word, core_of_word, size_of, holds_nothing}
unfoldable pub use Rattle.kernel_history.specs.{word_of_stack, flush_of_word}
