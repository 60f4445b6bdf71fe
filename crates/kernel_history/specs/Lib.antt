-- What the crates above name through this one.
pub use Rattle.entry_words.specs.spk_nums
pub use Rattle.kernel_rules
pub use Rattle.entry_words
pub use Rattle.frame_words
pub use Rattle.tcap_words
pub use Rattle.word_map
-- Its own.
pub mod ObjectWords
pub mod BootWords
pub mod Trace
pub mod Stamps
pub mod Graces
pub mod Events
pub mod Marks
pub mod Marking
pub mod Ways
pub mod Justified
pub mod Legal
pub mod Bounds
pub mod Footprint
pub mod Discipline
pub mod Alone
pub mod Order
pub mod FinalWords
pub mod Counts
pub mod Moments
pub mod Tables
pub mod Text
pub mod Laws
pub mod Scenes
pub mod Refusals
-- The names that are used most outside of this library.
pub use Rattle.kernel_history.specs.Alone.{IsAlone, IsFirst, KeepsFirst, IsUndisturbed, UnlessEnters}
pub use Rattle.kernel_history.specs.BootWords.{shape_of, boot_word, boot_entry, boot_frame}
pub use Rattle.kernel_history.specs.Bounds.{call_in, KeepsBounds, IsWithin}
pub use Rattle.kernel_history.specs.Counts.{counters, RepresentCounts, count_sum, count_in, count_at, IsUnheld}
pub use Rattle.kernel_history.specs.Discipline.{counts_references, KeepsDiscipline, changes_frames, changes_in_frame, changes_threads, changes_places, changes_budgets}
pub use Rattle.kernel_history.specs.Discipline.{changes_numbers, raises_clock, KeepsMarked, MarksOwn, MayMove, may_count, looks_at_frames, looks_at_numbers, stores_flush}
pub use Rattle.kernel_history.specs.Discipline.{IsDisciplined}
pub use Rattle.kernel_history.specs.Events.{events_of, plain_phase, with_decision, with_entry, with_return}
pub use Rattle.kernel_history.specs.FinalWords.{Represent, word_in, end_in, AreFrame, SaysPlace, SaysNumber, AreEntries, end_of}
pub use Rattle.kernel_history.specs.Footprint.{is_one_of, footprint_frames, IsInFootprint, frame_argument, frames_own, frames_named, frame_at_slot, footprint_numbers}
pub use Rattle.kernel_history.specs.Footprint.{KeepsFootprints, StepsInFootprint, frames_about, number_argument, number_in}
pub use Rattle.kernel_history.specs.Graces.{KeepsTime, GraceIs, IsLeave}
pub use Rattle.kernel_history.specs.Justified.{HasReached, IsJustified, IsRemoved, is_slot_in, HasRacedHead, IsHeldUp, IsRaceLost, IsSlot}
pub use Rattle.kernel_history.specs.Laws.{WasChanged}
pub use Rattle.kernel_history.specs.Legal.{IsLegal, MayFollow, MayDecide, MayEnter, MayReturn, DecidesBy}
pub use Rattle.kernel_history.specs.Marking.{marked_by, HasMarked}
pub use Rattle.kernel_history.specs.Marks.{mark_in_frame, mark_of, head_mark, count_mark, frame_mark, live_mark, hold_mark, thread_mark, entry_mark}
pub use Rattle.kernel_history.specs.ObjectWords.{frame_value, thread_value, at_height, holds_node}
pub use Rattle.kernel_history.specs.Order.{HasCalls, list_of, IsIdle, Follows, FollowsCores, AreOf, FollowsItems, Stretch, FollowsItem, RunsOut, MakesOne}
pub use Rattle.kernel_history.specs.Scenes.{enters, goes, done, loads, returns, decides, there, ready_to_look}
pub use Rattle.kernel_history.specs.Stamps.{stamp, clock, ends_in, begins_in, flushes_in, flush_stored, is_in, begins_at, ends_at, exit_of, flush_of, flushes_at}
pub use Rattle.kernel_history.specs.Stamps.{awaits_flushes, clock_seen, exit_after}
pub use Rattle.kernel_history.specs.Tables.{tables_of, core_lines, number, entry_line, frame_lines, number_line, quality_line, is_before, total_line}
pub use Rattle.kernel_history.specs.Text.{decisions_by, reply_lines}
pub use Rattle.kernel_history.specs.Trace.{state_after, Step, last_left, phase, Out, after_enter, Phase, state_before, Decided, calls_of, after_decide, own_read, own_left}
pub use Rattle.kernel_history.specs.Trace.{state_decided_in, state_entered, WasAt, after_return, state_decided, state_returned, decisions_of, decision_at, steps_in_call}
pub use Rattle.kernel_history.specs.Trace.{IfNot, reads, WasBefore, only_reads}
pub use Rattle.kernel_history.specs.Ways.{ways, way_to, target_of, wide_ways, root_passed, asked_of, wide_way_to, capability_in, led_to, waited_in}
pub use Rattle.std.specs.Prelude.{◌≡◌, ◌<◌, ◌∷◌, ◌++◌, ◌≤◌, ◌+◌, ◌≢◌, if◌then◌else◌, ◌==◌, ◌^◌, ◌⊎◌, ◌&&◌, ◌||◌, ◌-◌, ◌*◌, ◌+ℤ◌, ◌/◌, ◌%◌}
pub use Rattle.std.specs.Prelude.{◌-ℤ◌}
pub use Rattle.kernel_rules.specs.{ℕ, Some, [], refl, List, None, Setting, Option, true, false, Call, length, IsSetting, Bool}
pub use Rattle.kernel_rules.specs.{Reply, IsTrue, map, Capability, suc, Kernel, Kind}
pub use Rattle.kernel_rules.specs.{All, get_or, slice_get, zero, rule_of, PlaceOf, Frame, put, ltb, not, string_bytes, take, Thing, Found}
pub use Rattle.kernel_rules.specs.{change_of, IsSome, Tcap, found, FrameOf, is_some, Slot, Thread, thread_of, FrameKind, pos, fits, Comp, Value}
pub use Rattle.kernel_rules.specs.{thread_in, leb, MayReply, times, Blank, counted, comp_in, Nothing, does, Leaf, User, Pages, Untyped}
pub use Rattle.kernel_rules.specs.{cond, NumberOf, Table, comp_of, first_of_stack, Retype, Holds, Pleaf, ℤ, is_node, TcapFields, Place}
pub use Rattle.kernel_rules.specs.{RuleMay, Target, frame_names, first_of, reached, unless, InLimits, drop, Want, changed, Free, Under}
pub use Rattle.kernel_rules.specs.{named_by, IsFoundAnd, Tick, flat_map, only, named, outcome, Quiescing, Does, after, codes, to_use, state_by}
pub use Rattle.kernel_rules.specs.{Change, max, set, option_to_list, own, has_frame, left_if, Event, CompFields, Kill, CoreEnd, Named, tcap_at}
pub use Rattle.kernel_rules.specs.{Dead, Map, Item, negsuc, Ok, IsRun, tcap_in, Flush, slice_index, alone, are_calls_spent, ends_by, acts}
pub use Rattle.kernel_rules.specs.{IsGuarded, Core, Liveness, ThreadFields, Remove, Switch, Touch, reverse, IfSome, held_in, ends, same_thing}
pub use Rattle.kernel_rules.specs.{calls_counted, and_then, first_cause, start, InRoot, Grace, Live, cap_of, Look, Test, Transfer, Decision}
pub use Rattle.kernel_rules.specs.{decimal, usable, is_live_in, Judged, Object, whole_copy, Delegate, Gate, Replenish, Ret, Obj, Result, Err}
pub use Rattle.kernel_rules.specs.{flushes_by, place_names, Rule, Part, Shrink, Unmap, option_map, place_at, begins, Fill, ticks, vacant}
pub use Rattle.kernel_rules.specs.{plain_cap, with_frame, Grow, StageEnd, Translation, sum_by, root_slot, flushes, translation_of, Cause}
pub use Rattle.kernel_rules.specs.{Unused, Copy, min, IsSomeAnd, linked, root_at, outside, or_refuse, Decides, Enters, Returns, outstanding}
pub use Rattle.kernel_rules.specs.{vec_capacity, replicate, usable_in, owed_by, is_frame, Edit, frames_of, new_grace, asks_life}
pub use Rattle.kernel_rules.specs.{core_names, number_names, Vacant, of_kind, Limits, with_place, reply_text, with_one, place_in, How, Return}
pub use Rattle.kernel_rules.specs.{WordOp, eqb, Component, Pop, Push, with_budget, with_tcap, with_thread, phase_of, with_core, is_short}
pub use Rattle.kernel_rules.specs.{Amount, IsFalse, MatchOption, epoch_of, has_frames, is_blank, not_blank, moved, running, IsGood}
pub use Rattle.kernel_rules.specs.{is_paging, is_empty, is_untyped, held, not_vacant, no_grace, are_many, are_unlike, preemption, preempts}
pub use Rattle.kernel_rules.specs.{bound_of, part_of, Grant, PageFlags}
pub use Rattle.word_map.specs.{EntryAt, word_of, CountAt, Move, FrameAt, LiveAt, left_of, LoadOf, ClockAt, CoreAt, FlushAt, CompareOf, StoreOf}
pub use Rattle.word_map.specs.{same_word, told_of, Shape, AddOf, IsIn, op_of, IsShape}
pub use Rattle.frame_words.specs.{residue, CountFits, FrameFits, CompFits}
pub use Rattle.tcap_words.specs.{HeadFits, ThreadFits}
pub use Rattle.kernel_rules.specs.{State.State, Relies.Relies}
pub use Rattle.word_map.specs.Word.{Word}
pub use Rattle.frame_words.specs.{declared.count_word.CountWord.CountWord, declared.frame_word.FrameWord.FrameWord}
pub use Rattle.frame_words.specs.{declared.live_word.LiveWord.LiveWord, declared.comp_word.CompWord.CompWord}
pub use Rattle.frame_words.specs.{declared.count_word.Hold.TheVariants.Closed, declared.count_word.Hold.TheVariants.Unheld}
pub use Rattle.frame_words.specs.{declared.count_word.Hold.TheVariants.Pinned, declared.count_word.Hold.Hold}
pub use Rattle.frame_words.specs.{declared.core_word.CoreWord.CoreWord}
pub use Rattle.entry_words.specs.{declared.entry.Entry.Entry, declared.entry.Entry.TheVariants.Held, declared.entry.Entry.TheVariants.Closing}
pub use Rattle.entry_words.specs.{EntryWord.EntryFits}
pub use Rattle.entry_words.specs.spk_nums.specs.declared.calls.Call.TheVariants.{Make}
pub use Rattle.tcap_words.specs.{declared.head_word.HeadWord.HeadWord, declared.thread_word.ThreadWord.TheVariants.Running}
pub use Rattle.tcap_words.specs.{declared.thread_word.ThreadWord.TheVariants.Idle, declared.thread_word.ThreadWord.TheVariants.Claimed}
pub use Rattle.tcap_words.specs.{declared.quality_word.QualityWord.QualityWord, declared.thread_word.ThreadWord.ThreadWord}
unfoldable pub use Rattle.kernel_history.specs.{Scenes.two_cores, Scenes.range_word, Tables.lines_below}
unfoldable pub use Rattle.frame_words.specs.{word_of_count, count_of_word, live_of_word, frame_of_word, word_of_frame, word_of_live, comp_of_word}
unfoldable pub use Rattle.frame_words.specs.{core_of_word, flush_of_word}
unfoldable pub use Rattle.tcap_words.specs.{head_of_word, word_of_head, thread_of_word, quality_of_word, word_of_thread, stack_of_word, word_of_stack}
unfoldable pub use Rattle.kernel_rules.specs.{refs, sum_below, node_refs, holds_nothing}
unfoldable pub use Rattle.word_map.specs.{place_of, size_of}
unfoldable pub use Rattle.entry_words.specs.{entry_of_word, word_of_entry}
