-- What the crates above name through this one.
pub use Rattle.stage_sweep.specs.spk_nums
pub use Rattle.stage_tcap.specs.quality_lists
pub use Rattle.stage_sweep.specs.entry_words
pub use Rattle.stage_sweep.specs.frame_words
pub use Rattle.stage_sweep.specs.tcap_words
pub use Rattle.stage_sweep.specs.word_map
pub use Rattle.call_plans.specs.kernel_invariant.specs.kernel_rules
pub use Rattle.call_plans
pub use Rattle.stage_sweep.specs.stage_look
pub use Rattle.stage_sweep.specs.stage_pins
pub use Rattle.stage_sweep.specs.stage_quiet
pub use Rattle.stage_thread
pub use Rattle.stage_sweep
pub use Rattle.stage_tcap
-- Its own.
pub mod Refusals
pub mod Shares
pub mod Scans
pub mod WorkSteps
pub mod Comps
pub mod Fills
pub mod Typings
pub mod Objects
pub mod Makings
pub mod OwnChanges
pub mod Ticks
pub mod Refills
pub mod Invocations
pub mod Switches
pub mod Dues
pub mod Keeping
pub mod Phases
pub mod Taking
pub mod Acts
pub mod Lookups
pub mod Laws
pub mod Kills
pub mod Flushes
pub mod Untypings
pub mod Touches
-- The names that are used most outside of this library.
pub use Rattle.act_states.specs.Acts.{act_begun, reads_of, starts, put_by, ActFits, fills_page, removes_by, took_act, makes_at, page_cap, scans, stamp_shown}
pub use Rattle.act_states.specs.Acts.{took_close, undo, act_left, made_begun, stamp_of_act, act_move, act_ready, comp_cap, fills_with, gate_if, gate_to, invokes_if}
pub use Rattle.act_states.specs.Acts.{invokes_in, kills_in, maps_if, removes_at, returns_if, types_at, types_if, comps_at, filling, invokes_at, kills_at, looked}
pub use Rattle.act_states.specs.Acts.{maps_at, parts_at, removes_held, stamp_in, switches_at}
pub use Rattle.act_states.specs.Comps.{comp_dues, comp_is_marked, comp_due_list, comp_meets_number, comp_published, CompMakingFits, comp_goes, comp_word_at}
pub use Rattle.act_states.specs.Comps.{number_scanned, closes_number, comp_at, comp_meets, comp_meets_blank, comp_meets_object, comp_refuses, number_met, number_shown}
pub use Rattle.act_states.specs.Comps.{scans_number, takes_number, CompAtFits, comp_filling, comp_undo}
pub use Rattle.act_states.specs.Dues.{invoking_dues, made_dues, returning_dues, cap_dues, killing_dues, IsSmallChange}
pub use Rattle.act_states.specs.Phases.{dues, next_work, acquires, phases_of, Aim, is_first_of}
pub use Rattle.act_states.specs.Keeping.{KeepsWord, KeepsCounters}
pub use Rattle.act_states.specs.Fills.{filled_if, fill_move, took_fill}
pub use Rattle.act_states.specs.Invocations.{frame_in, is_entering, is_leaving, enters_if, enters_live, below_in, invoking_at, returning_at}
pub use Rattle.act_states.specs.Kills.{is_killing, killing_at}
pub use Rattle.act_states.specs.Lookups.{met_free, met_held, next_step, met_name, looks_at, looks_entry, looks_under, read_first, met_right}
pub use Rattle.act_states.specs.Makings.{is_marked, making_at, MakingFits, is_filling, made, undo_at}
pub use Rattle.act_states.specs.Objects.{last_word, object_dues, object_word, object_kind, NamesFit, counts_of, object_names}
pub use Rattle.act_states.specs.OwnChanges.{own_changed}
pub use Rattle.act_states.specs.Refills.{took_refilled, took_refill, left_among, refills_at}
pub use Rattle.act_states.specs.Refusals.{refusal_of, reply_of}
pub use Rattle.act_states.specs.Scans.{ScanFits, left_of_scan}
pub use Rattle.act_states.specs.Shares.{took_shared, took_share, shared, shares_if, after_share, shares_at, share_left}
pub use Rattle.act_states.specs.Switches.{is_switching, switching_dues, tcap_dues, SwitchAtFits, SwitchingFits, switch_due_list, switch_table, switching_at, took_claim}
pub use Rattle.act_states.specs.Switches.{idle_move, running_move, switching_undo}
pub use Rattle.act_states.specs.Taking.{took_sweep, took_untyping_at, published, took_comp_at, took_invoking_at, took_killing_at, took_making_at, took_returning_at}
pub use Rattle.act_states.specs.Taking.{took_switching_at, closes_if, comp_marks, maps_frame, maps_word, marks_if, meets_below, meets_below_pages, meets_below_table}
pub use Rattle.act_states.specs.Taking.{meets_blank, meets_comp, meets_gate, meets_life, meets_live, meets_making, meets_number, meets_object, meets_pages, meets_table}
pub use Rattle.act_states.specs.Taking.{meets_untyped, meets_untyping, sweeps_if, switch_pages}
pub use Rattle.act_states.specs.Ticks.{took_charge, is_charging, ticks_due, ticks_of, took_tick}
pub use Rattle.act_states.specs.Touches.{is_at_page, touch_end, touched, touches_if, meets_page}
pub use Rattle.act_states.specs.Typings.{is_typing, took_typing_at, typed, typed_if, meets_frame, meets_word, typing_at}
pub use Rattle.act_states.specs.Untypings.{release_of, is_drawing, released_dues, UntypingFits, untyping_dues, OwnedBy, owned_dues, release_after, untyping_undo}
pub use Rattle.act_states.specs.Untypings.{thaw_left_by, untyping_at}
pub use Rattle.act_states.specs.WorkSteps.{refuse}
pub use Rattle.std.specs.Prelude.{◌≡◌, ◌<◌, ◌∷◌, ◌≤◌, ◌+◌, if◌then◌else◌, ◌≢◌, ◌++◌, ◌==◌, ◌^◌, ◌&&◌, ◌⊎◌, ◌||◌, ◌-◌, ◌*◌, ◌+ℤ◌, ◌/◌, ◌%◌}
pub use Rattle.call_plans.specs.kernel_invariant.specs.kernel_rules.specs.{ℕ, Some, refl, None, [], List, Setting, Option, true}
pub use Rattle.call_plans.specs.kernel_invariant.specs.kernel_rules.specs.{false, length, IsSetting, Bool, Call, Reply}
pub use Rattle.call_plans.specs.kernel_invariant.specs.kernel_rules.specs.{Capability, map, IsTrue, suc, Kernel, Kind}
pub use Rattle.call_plans.specs.kernel_invariant.specs.kernel_rules.specs.{All, slice_get, PlaceOf, ltb, rule_of, put, zero, get_or}
pub use Rattle.call_plans.specs.kernel_invariant.specs.kernel_rules.specs.{found, IsSome, change_of, Frame, Thing, Found, FrameKind, not}
pub use Rattle.call_plans.specs.kernel_invariant.specs.kernel_rules.specs.{pos, FrameOf, leb, Slot, fits, thread_of, ℤ, Tcap, counted}
pub use Rattle.call_plans.specs.kernel_invariant.specs.kernel_rules.specs.{Value, take, does, Thread, comp_in, Retype, thread_in, Nothing}
pub use Rattle.call_plans.specs.kernel_invariant.specs.kernel_rules.specs.{is_some, MayReply, Comp, NumberOf, Target, RuleMay, Blank, Refused}
pub use Rattle.call_plans.specs.kernel_invariant.specs.kernel_rules.specs.{first_of_stack, Leaf, Pages, comp_of, InLimits, first_of, Table}
pub use Rattle.call_plans.specs.kernel_invariant.specs.kernel_rules.specs.{User, is_node, unless, Pleaf, Under, Want, times, frame_names}
pub use Rattle.call_plans.specs.kernel_invariant.specs.kernel_rules.specs.{TcapFields, Holds, Untyped, Tick, StageEnd, string_bytes}
pub use Rattle.call_plans.specs.kernel_invariant.specs.kernel_rules.specs.{reached, IsFoundAnd, negsuc, IfSome, only, changed, named_by}
pub use Rattle.call_plans.specs.kernel_invariant.specs.kernel_rules.specs.{outcome, Kill, Does, left_if, Map, cond, begins_in, Place, Switch}
pub use Rattle.call_plans.specs.kernel_invariant.specs.kernel_rules.specs.{to_use, calls_counted, Flush, Remove, has_frame, Change, named, Gate}
pub use Rattle.call_plans.specs.kernel_invariant.specs.kernel_rules.specs.{Item, max, InRoot, Free, Replenish, Test, Transfer, CoreEnd}
pub use Rattle.call_plans.specs.kernel_invariant.specs.kernel_rules.specs.{option_to_list, Named, are_calls_spent, ends_by, same_thing, acts}
pub use Rattle.call_plans.specs.kernel_invariant.specs.kernel_rules.specs.{first_cause, Delegate, Part, Ret, alone, state_by, and_then}
pub use Rattle.call_plans.specs.kernel_invariant.specs.kernel_rules.specs.{Quiescing, cap_of, Grow, Shrink, Touch, Unmap, set, ends, tcap_at}
pub use Rattle.call_plans.specs.kernel_invariant.specs.kernel_rules.specs.{IsGuarded, CompFields, Dead, ThreadFields, held_in, flushes_by, Copy}
pub use Rattle.call_plans.specs.kernel_invariant.specs.kernel_rules.specs.{Obj, min, drop, flat_map, place_at, begins, is_live_in, Grace, Live}
pub use Rattle.call_plans.specs.kernel_invariant.specs.kernel_rules.specs.{Liveness, whole_copy, Decision, Translation, slice_index, sum_by}
pub use Rattle.call_plans.specs.kernel_invariant.specs.kernel_rules.specs.{IsSomeAnd, root_slot, usable, flushes, plain_cap, tcap_in}
pub use Rattle.call_plans.specs.kernel_invariant.specs.kernel_rules.specs.{with_frame, option_map, Err, linked, root_at, outside}
pub use Rattle.call_plans.specs.kernel_invariant.specs.kernel_rules.specs.{translation_of, Cause, or_refuse, Core, Object, vec_capacity, Result}
pub use Rattle.call_plans.specs.kernel_invariant.specs.kernel_rules.specs.{is_frame, frames_of, place_names, vacant, Unused, bound_of, Amount}
pub use Rattle.call_plans.specs.kernel_invariant.specs.kernel_rules.specs.{How, Return, usable_in, has_frames, Edit, new_grace, asks_life}
pub use Rattle.call_plans.specs.kernel_invariant.specs.kernel_rules.specs.{Judged, Rule, IsRun, with_place, is_short, Range, PageFlags, eqb}
pub use Rattle.call_plans.specs.kernel_invariant.specs.kernel_rules.specs.{MatchOption, is_blank, not_blank, Component, is_empty, is_untyped}
pub use Rattle.call_plans.specs.kernel_invariant.specs.kernel_rules.specs.{Vacant, not_vacant, after, are_many, are_unlike, covers, has_rights}
pub use Rattle.call_plans.specs.kernel_invariant.specs.kernel_rules.specs.{part_of, place_in, WordOp}
pub use Rattle.stage_tcap.specs.{EntryAt, Word, word_of, Move, CountAt, FrameAt, LoadOf, LiveAt, left_of, ClockAt, CoreAt, FlushAt, CompareOf}
pub use Rattle.stage_tcap.specs.{StoreOf, HeadWord, told_of, same_word, Shape, HeadFits, quality_of_word, Running, AddOf, IsIn, Idle, in_order}
pub use Rattle.stage_tcap.specs.{head, stack_of_word, amount_of, Ok, head_end, marked, end_by_mark, place_of, credited, QualityWord, size_of}
pub use Rattle.stage_tcap.specs.{again_end, ThreadWord, rank, debited, same_list, judged, refill_after, ThreadFits, charged_end, read_word}
pub use Rattle.stage_tcap.specs.{by_alike, by_room, list_end, op_of, IsShape, charge_move, b_end, decided_by_mark, giving_back, marked_end}
pub use Rattle.stage_tcap.specs.{pair_after, StackWord}
pub use Rattle.call_plans.specs.{plan_for, Leads, LeadsIn, own_pages, next_of, NextFree, names_after, rule_after, at_place, NextName, NextHeld}
pub use Rattle.call_plans.specs.{NextNothing, NextOwn, of_kind, with_found, next_in, want_of, pushed, earlier}
pub use Rattle.stage_sweep.specs.stage_quiet.specs.{quiet_end, drawn_stamp, quiet_after, quiet_scan, core_scan, scan_end, quiet_move}
pub use Rattle.stage_sweep.specs.stage_quiet.specs.{scan_after, close_move, QuietFits, next_other, quiet_next, close_after, close_end}
pub use Rattle.stage_sweep.specs.stage_quiet.specs.{first_other, flush_scan, quiet_refuses}
pub use Rattle.stage_sweep.specs.{swept_of, latest_stamp, end_by, at_after, loads_of, released, sum_of_counts, frozen, move_at, thaw_of}
pub use Rattle.stage_sweep.specs.{may_be_cached, ThawFits}
pub use Rattle.stage_sweep.specs.stage_pins.specs.{unheld, later, pin_end, stamp_of_change, pin_move, pin_after, pinned_at, acquired, AllFit}
pub use Rattle.stage_sweep.specs.stage_pins.specs.{commit_of, compare_end, settle_move}
pub use Rattle.stage_sweep.specs.stage_look.specs.{CapNames, shown_in, look_end, look_move, end_by_link, look_after, place_end, end_of_frames}
pub use Rattle.stage_sweep.specs.stage_look.specs.{is_link}
pub use Rattle.stage_sweep.specs.frame_words.specs.{frame_of_word, CountFits, core_of_word, CompFits, FrameFits}
pub use Rattle.stage_thread.specs.{alive_end, alive_after}
pub use Rattle.call_plans.specs.kernel_invariant.specs.kernel_rules.specs.{State.State, Relies.Relies}
pub use Rattle.stage_sweep.specs.stage_pins.specs.{declared.held.Acquired.Acquired, declared.pin.Pin.Pin, declared.pin.Pin.TheVariants.AtLoad}
pub use Rattle.stage_sweep.specs.stage_pins.specs.{declared.pin.Pinned.Pinned}
pub use Rattle.stage_sweep.specs.entry_words.specs.{declared.entry.Entry.Entry, declared.entry.Entry.TheVariants.Held}
pub use Rattle.stage_sweep.specs.entry_words.specs.{declared.entry.Entry.TheVariants.Closing, EntryWord.EntryFits}
pub use Rattle.stage_sweep.specs.frame_words.specs.{declared.count_word.CountWord.CountWord, declared.frame_word.FrameWord.FrameWord}
pub use Rattle.stage_sweep.specs.frame_words.specs.{declared.live_word.LiveWord.LiveWord, declared.comp_word.CompWord.CompWord, Residue.residue}
pub use Rattle.stage_sweep.specs.frame_words.specs.{declared.count_word.Hold.Hold, declared.count_word.Hold.TheVariants.Closed}
pub use Rattle.stage_sweep.specs.frame_words.specs.{declared.count_word.Hold.TheVariants.Unheld, declared.core_word.CoreWord.CoreWord}
pub use Rattle.stage_tcap.specs.{declared.pair.Pair.Pair, declared.pair.PairAt.PairAt, declared.pair.PairAt.TheVariants.CompareB}
pub use Rattle.stage_tcap.specs.{declared.pair.PairAt.TheVariants.StoreA, declared.pair.PairAt.TheVariants.AgainB}
pub use Rattle.stage_tcap.specs.{declared.pair.PairAt.TheVariants.MarkA, declared.pair.PairAt.TheVariants.ListA}
pub use Rattle.stage_tcap.specs.{declared.pair.PairAt.TheVariants.LoadA, declared.pair.PairAt.TheVariants.LoadB}
pub use Rattle.stage_tcap.specs.{declared.pair.PairAt.TheVariants.StoreB, declared.pair.PairAt.TheVariants.StoreList}
pub use Rattle.stage_tcap.specs.{declared.pair.PairAt.TheVariants.ListB, declared.charge.Charge.Charge, declared.refill.Refill.Refill}
pub use Rattle.stage_tcap.specs.{declared.pair.PairWork.PairWork, declared.refill.RefillAt.RefillAt, declared.refill.RefillAt.TheVariants.Again}
pub use Rattle.stage_sweep.specs.spk_nums.specs.declared.calls.Call.TheVariants.{Make}
pub use Rattle.stage_sweep.specs.stage_quiet.specs.declared.quiet.Quiet.{Quiet}
pub use Rattle.stage_sweep.specs.stage_quiet.specs.declared.close.Close.TheVariants.{AtDraw, AtCompare, AtStore}
pub use Rattle.stage_sweep.specs.stage_quiet.specs.declared.quiet.Quiet.TheVariants.{AtFlush, AtCore}
pub use Rattle.stage_sweep.specs.stage_quiet.specs.declared.close.Close.{Close}
pub use Rattle.call_plans.specs.{declared.plans.Plan.Plan, GoesBy.GoesBy, declared.plans.Nth.TheVariants.First}
pub use Rattle.call_plans.specs.{declared.plans.Nth.TheVariants.Second, declared.plans.Nth.TheVariants.Third}
pub use Rattle.call_plans.specs.{declared.plans.Nth.TheVariants.Fourth, After.Next, declared.plans.Name.Name}
pub use Rattle.call_plans.specs.{declared.plans.Target.TheVariants.Nowhere, declared.plans.Spot.Spot, Bounds.act_steps, Bounds.look_steps}
pub use Rattle.stage_sweep.specs.stage_look.specs.declared.look.Look.{Look}
pub use Rattle.stage_sweep.specs.stage_look.specs.declared.look.Look.TheVariants.{AtRoot, AtEntry, AtLeaf}
pub use Rattle.stage_sweep.specs.{declared.sweep.Sweep.Sweep, declared.sweep.SweepAt.SweepAt, declared.empty.Owned.Owned}
pub use Rattle.stage_sweep.specs.{declared.sweep.Swept.Swept, declared.thaw.Thaw.Thaw, declared.sweep.SweepAt.TheVariants.Scan}
pub use Rattle.stage_sweep.specs.{declared.sweep.SweepAt.TheVariants.Compare, declared.sweep.SweepAt.TheVariants.Empty}
pub use Rattle.stage_sweep.specs.{declared.sweep.SweepAt.TheVariants.Load}
pub use Rattle.stage_thread.specs.{declared.claim.Claimed.Claimed, declared.alive.Alive.Alive, declared.alive.Alive.TheVariants.AtComp}
pub use Rattle.stage_thread.specs.{declared.alive.Alive.TheVariants.AtLive, declared.stack.Pop.Pop, declared.stack.Push.Push}
pub use Rattle.stage_thread.specs.{declared.claim.Claim.Claim, declared.claim.Claim.TheVariants.AtStack}
unfoldable pub use Rattle.stage_sweep.specs.frame_words.specs.{word_of_count, count_of_word, live_of_word, word_of_frame, comp_of_word, word_of_live}
unfoldable pub use Rattle.stage_sweep.specs.frame_words.specs.{flush_of_word}
unfoldable pub use Rattle.stage_tcap.specs.{word_of_head, head_of_word, thread_of_word, word_of_thread, word_of_stack}
unfoldable pub use Rattle.call_plans.specs.kernel_invariant.specs.kernel_rules.specs.{refs, sum_below, node_refs, holds_nothing}
unfoldable pub use Rattle.stage_sweep.specs.entry_words.specs.{word_of_entry, entry_of_word}
unfoldable pub use Rattle.stage_sweep.specs.Counters.{counters_of}
