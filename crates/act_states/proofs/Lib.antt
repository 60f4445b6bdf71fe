pub mod Refusing
-- The names that are used most outside of this library.
pub use Rattle.act_states.specs.{◌≡◌, ℕ, refl, Some, ◌<◌, ◌∷◌, None, [], Setting, true, List, false, Option, IsSetting, length, Bool, ◌≤◌, Call}
pub use Rattle.act_states.specs.{Reply, State, ◌+◌, if◌then◌else◌, ◌≢◌, ◌==◌, EntryAt, ◌++◌, Capability, plan_for, IsTrue, map, Word, word_of}
pub use Rattle.act_states.specs.{Move, Kernel, ◌^◌, suc, Acquired, CountAt, ◌&&◌, Kind, ◌⊎◌, rule_of, left_of, PlaceOf, All, put, ltb, FrameAt}
pub use Rattle.act_states.specs.{LoadOf, LeadsIn, change_of, LiveAt, Found, zero, get_or, slice_get, found, Frame, ◌||◌, Leads, Thing, CoreAt}
pub use Rattle.act_states.specs.{IsSome, not, ClockAt, FrameOf, FlushAt, own_pages, Slot, counted, leb, Tcap, FrameKind, ◌-◌, pos, does, Pair}
pub use Rattle.act_states.specs.{refuse, CountWord, fits, Entry, MayReply, Thread, thread_in, thread_of, Value, ℤ, take, RuleMay, Comp}
pub use Rattle.act_states.specs.{HeadWord, told_of, same_word, is_some, Refused, Blank, comp_in, Nothing, Target, first_of, NumberOf, CompareOf}
pub use Rattle.act_states.specs.{FrameWord, is_node, unless, Leaf, Pages, Quiet, dues, times, Table, comp_of, StoreOf, Shape, GoesBy, Pleaf}
pub use Rattle.act_states.specs.{first_of_stack, PairAt, ◌*◌, next_of, Plan, Want, frame_names, TcapFields, User, Retype, AtCompare, AtDraw}
pub use Rattle.act_states.specs.{AtStore, release_of, LiveWord, Under, IsFoundAnd, Holds, Untyped, ◌+ℤ◌, names_after, rule_after, at_place}
pub use Rattle.act_states.specs.{IfSome, frame_of_word, only, changed, named_by, outcome, Look, negsuc, next_work, NextFree, First, Does}
pub use Rattle.act_states.specs.{InLimits, left_if, string_bytes, cond, reached, begins_in, AtFlush, swept_of, to_use, Place, Tick, AtCore}
pub use Rattle.act_states.specs.{StoreA, quality_of_word, residue, calls_counted, Change, named, Map, Switch, unheld, Sweep, SweepAt, CompareB}
pub use Rattle.act_states.specs.{Refill, HeadFits, CompWord, Kill, Replenish, Test, StageEnd, Owned, AgainB, Running, max, act_begun, NextName}
pub use Rattle.act_states.specs.{Second, are_calls_spent, ends_by, same_thing, first_cause, Free, Delegate, Transfer, Swept, ListA, LoadA}
pub use Rattle.act_states.specs.{LoadB, MarkA, StoreB, StoreList, PairWork, took_sweep, Name, option_to_list, alone, state_by, acts, and_then}
pub use Rattle.act_states.specs.{Gate, Grow, Part, Remove, Shrink, Unmap, Charge, ListB, Idle, IsIn, refusal_of, took_shared, InRoot, ends}
pub use Rattle.act_states.specs.{has_frame, tcap_at, Quiescing, Flush, Ret, CapNames, AtEntry, AtRoot, later, Pin, quiet_end, end_by, Claimed}
pub use Rattle.act_states.specs.{stack_of_word, reads_of, NextHeld, EntryFits, Named, flushes_by, ThreadFields, Copy, Obj, shown_in, AtLeaf}
pub use Rattle.act_states.specs.{quiet_after, quiet_scan, latest_stamp, head_end, in_order, min, starts, took_share, Next, of_kind, flat_map}
pub use Rattle.act_states.specs.{Held, held_in, place_at, begins, is_live_in, Relies, CompFields, Grace, Translation, drawn_stamp, Close}
pub use Rattle.act_states.specs.{at_after, end_by_mark, marked, amount_of, AddOf, comp_dues, took_refilled, NextNothing, NextOwn, with_found}
pub use Rattle.act_states.specs.{flushes, plain_cap, Live, Liveness, tcap_in, with_frame, Touch, CoreEnd, stamp_of_change, Scan, Thaw, head}
pub use Rattle.act_states.specs.{QualityWord, drop, set, frame_in, own_changed, took_charge, Nowhere, sum_by, IsSomeAnd, CountFits, Hold}
pub use Rattle.act_states.specs.{outside, Cause, or_refuse, Core, Dead, Pinned, core_scan, scan_end, loads_of, Empty, credited, again_end}
pub use Rattle.act_states.specs.{RefillAt, Alive, Claim, vec_capacity, ThreadWord, place_of, invoking_dues, made_dues, returning_dues}
pub use Rattle.act_states.specs.{last_word, object_dues, took_refill, reply_of, took_untyping_at, released_dues, option_map, core_of_word}
pub use Rattle.act_states.specs.{is_frame, frames_of, place_names, vacant, Object, Item, end_by_link, pin_end, scan_after, released, Compare}
pub use Rattle.act_states.specs.{Load, debited, same_list, refill_after, AtComp, ThreadFits, ◌%◌, ActFits, makes_at, page_cap, put_by, scans}
pub use Rattle.act_states.specs.{stamp_shown, took_act, comp_due_list, comp_published, met_free, met_held, next_step, published, took_comp_at}
pub use Rattle.act_states.specs.{took_invoking_at, took_killing_at, took_making_at, took_returning_at, took_switching_at, touch_end, touched}
pub use Rattle.act_states.specs.{took_typing_at, UntypingFits, is_drawing, untyping_dues, next_in, want_of, Third, Spot, FrameFits, Closed}
pub use Rattle.act_states.specs.{root_slot, usable, usable_in, Edit, new_grace, IsGuarded, Judged, Rule, IsRun, Unused, with_place, is_short}
pub use Rattle.act_states.specs.{rank, Range, PageFlags, Decision, look_end, look_move, place_end, end_of_frames, pin_after, acquired, AllFit}
pub use Rattle.act_states.specs.{next_other, frozen, thaw_of, charged_end, by_alike, by_room, judged, list_end, AtLive, AtStack, ◌/◌, eqb}
pub use Rattle.act_states.specs.{made_begun, took_close, undo, CompMakingFits, comp_goes, number_scanned, cap_dues, killing_dues, filled_if}
pub use Rattle.act_states.specs.{enters_if, enters_live, is_killing, looks_at, looks_entry, looks_under, met_name, read_first, shared}
pub use Rattle.act_states.specs.{shares_if, switching_dues, tcap_dues, took_tick, touches_if, typed_if, OwnedBy, earlier, pushed, Fourth}
pub use Rattle.act_states.specs.{slice_index, Err, CoreWord, linked, root_at, has_frames, is_blank, not_blank, Component, asks_life, is_empty}
pub use Rattle.act_states.specs.{is_untyped, translation_of, Vacant, not_vacant, after, are_many, are_unlike, bound_of, cap_of, part_of}
pub use Rattle.act_states.specs.{whole_copy, place_in, Return, look_after, is_link, QuietFits, first_other, flush_scan, quiet_next}
pub use Rattle.act_states.specs.{sum_of_counts, ThawFits, read_word, b_end, decided_by_mark, giving_back, marked_end, pair_after, alive_end}
pub use Rattle.act_states.specs.{StackWord, op_of, IsShape}
pub use Rattle.call_plans.specs.kernel_invariant.specs.kernel_rules.proofs.{ap, ◌∙◌, sym, subst, arith, inl, inr, false≢true, eq-eqb, put_same}
pub use Rattle.call_plans.specs.kernel_invariant.specs.kernel_rules.proofs.{eqb-true, ne_eqb, put_other, lt-ltb, Make, eqb-false, ltb-false}
pub use Rattle.call_plans.specs.kernel_invariant.specs.kernel_rules.proofs.{ltb-true, length-map, length-append, leb-true, rules, leb-false}
pub use Rattle.call_plans.specs.kernel_invariant.specs.kernel_rules.proofs.{append-nil, append_assoc, true≢false, le-leb, get_or-map, take_all}
pub use Rattle.call_plans.specs.kernel_invariant.specs.kernel_rules.proofs.{get_or_past, take_more, le-ltb, length-take-le, map-id, Ok, Pop}
pub use Rattle.call_plans.specs.kernel_invariant.specs.kernel_rules.proofs.{Push}
pub use Rattle.call_plans.specs.kernel_invariant.proofs.{opened, IsSound, only_is, sum_one, named_fit, frame_refs, suits, grace_refs, some_inj}
pub use Rattle.call_plans.specs.kernel_invariant.proofs.{IsObjectGood, IsOpen, times_cons}
pub use Rattle.call_plans.proofs.{outcome_left, leads_by, left_may, calls_go}
pub use Rattle.stage_tcap.proofs.{same_same, spelling}
pub use Rattle.stage_tcap.specs.declared.charge.Charge.TheVariants.{AtLoad}
unfoldable pub use Rattle.act_states.specs.{refs, head_of_word, word_of_head, entry_of_word, word_of_entry, count_of_word, live_of_word, word_of_count}
unfoldable pub use Rattle.act_states.specs.{thread_of_word, word_of_frame, sum_below, word_of_thread, comp_of_word, word_of_live, node_refs, word_of_stack}
unfoldable pub use Rattle.act_states.specs.{flush_of_word, holds_nothing, counters_of}
