-- Changes and what is known of them.
pub mod Changes
pub mod Rows
pub mod PartFrames
-- Who waits, and the first reply in order.
pub mod Within
pub mod Agrees
pub mod AloneLaw
-- Worked examples, which the checker computes.
pub mod Examples
-- The names that are used most outside of this library.
pub use Rattle.kernel_rules.proofs.{Agrees.IfRefused, AloneLaw.waits_inside, AloneLaw.decided_stays, AloneLaw.Waits, AloneLaw.found_waits}
pub use Rattle.kernel_rules.proofs.{Changes.IfFound, Changes.AllChanges, Changes.outcome_all, PartFrames.frames_in, PartFrames.frame_in}
pub use Rattle.kernel_rules.proofs.{Within.put_same, Within.put_other}
pub use Rattle.kernel_rules.specs.{◌≡◌, ℕ, refl, ◌<◌, Some, ◌∷◌, [], List, true, false, None, Bool, Option, Setting, ◌≤◌, ◌+◌, Call, Reply}
pub use Rattle.kernel_rules.specs.{length, if◌then◌else◌, IsSetting, ◌==◌, ◌≢◌, ◌++◌, IsTrue, Capability, Kind, Kernel, suc, ◌&&◌, Frame, Found}
pub use Rattle.kernel_rules.specs.{◌⊎◌, map, put, ltb, rule_of, PlaceOf, zero, ◌^◌, ◌-◌, change_of, Thing, slice_get, Refused, not, Comp, found}
pub use Rattle.kernel_rules.specs.{Thread, Slot, get_or, MayReply, fits, ◌||◌, FrameOf, thread_in, times, after, Tcap, Holds, Value, ◌*◌, take}
pub use Rattle.kernel_rules.specs.{Untyped, leb, Change, FrameKind, All, Tick, cond, Make, only, Judged, comp_of, Place, string_bytes, is_some}
pub use Rattle.kernel_rules.specs.{counted, state_by, does, Event, changed, named, Blank, thread_of, is_node, Core, drop, IsSome, IsRun, Pages}
pub use Rattle.kernel_rules.specs.{comp_in, Free, Leaf, Quiescing, TcapFields, tcap_at, Pleaf, Table, Retype, frame_names, IsFoundAnd, NumberOf}
pub use Rattle.kernel_rules.specs.{to_use, Want, Decides, Nothing, reached, User, Limits, Under, RuleMay, Target, Enters, InLimits, Returns}
pub use Rattle.kernel_rules.specs.{Translation, Named, ThreadFields, usable, unless, Live, tcap_in, pos, owed_by, Edit, named_by, Replenish}
pub use Rattle.kernel_rules.specs.{own, Grace, Switch, and_then, CompFields, Liveness, with_frame, same_thing, is_open, Map, min, set, first_of}
pub use Rattle.kernel_rules.specs.{with_core, Delegate, Transfer, Fill, is_live_in, place_names, outcome, first_of_stack, Flush, held_in}
pub use Rattle.kernel_rules.specs.{edited, number_names, Does, Gate, Kill, Part, Test, start, Dead, Copy, Grow, Remove, Shrink, Unmap, ℤ}
pub use Rattle.kernel_rules.specs.{place_at, after_edits, with_tcap, translation_of, Look, usable_in, first_cause, Ret, ends, Component, Pop}
pub use Rattle.kernel_rules.specs.{core_names, Cause, plain_cap, Touch, IfSome, InRoot, Node, Untype, with_thread, phase_of, has_frame, Give}
pub use Rattle.kernel_rules.specs.{Merge, begun, switch_to, no_grace, outstanding, with_place, are_calls_spent, begins_in, running, touch_by}
pub use Rattle.kernel_rules.specs.{or_refuse, Object, ◌+ℤ◌, Charge, Push, acts, Unused, IsSomeAnd, Become, Move, with_budget, entered}
pub use Rattle.kernel_rules.specs.{new_grace, vacant, flat_map, option_map, alone, begins, ends_by, make_rule, outside, IsGood, retype_rule}
pub use Rattle.kernel_rules.specs.{Rule, mapped, cap_of, negsuc, reverse, IsFalse, option_to_list, flushes, epoch_of, Deaden, returned, left_if}
pub use Rattle.kernel_rules.specs.{Cache, frames_of, calls_counted, held, ◌%◌, is_empty, Open, has_rights, part_of, max, Ok, any, not_blank}
pub use Rattle.kernel_rules.specs.{Vacant, name_of, of_kind, root, root_at, flushes_by, is_live, is_in, with_grace, kept, PageFlags, StageEnd}
pub use Rattle.kernel_rules.specs.{Result, Err, root_slot, IsGuarded, ◌/◌, charge, moved, with_number, whole_copy, find, linked, not_taken}
pub use Rattle.kernel_rules.specs.{cleared, Name, refusal_of, Out, to_copy, to_part, has_frames, asks_life, not_retyped, Held, Mapped, When}
pub use Rattle.kernel_rules.specs.{place_with, start_cap, Obj, CoreEnd, codes, is_blank, begins_all, caching, is_untyped, waits_of, Phase}
pub use Rattle.kernel_rules.specs.{is_decided, start_place, is_short, merged_list, slice_index, sum_by, IfOk, slot_in, reply_in, is_frame}
pub use Rattle.kernel_rules.specs.{make_node, EndsWithin, ticks, Unflushed, flushes_of, not_vacant, start_frame, Item, option_and_then}
pub use Rattle.kernel_rules.specs.{plain_reply, is_paging, is_translated, lowest, is_user, InRanges, OneMay, WaitedFor, Decided, core_of}
pub use Rattle.kernel_rules.specs.{are_alike, are_many, has_core, covers, Grant, Decision, vec_capacity, first_reply, leaf_of, with_qualities}
pub use Rattle.kernel_rules.specs.{MayBeUnflushed, MayWait, flushed, passed, not_live, FrameInRange, granted, start_number, are_unlike}
pub use Rattle.kernel_rules.specs.{bound_of, eqb, replicate, fold, has_no_slot, holds_link, to_look, plain_step, plain_steps, switched}
pub use Rattle.kernel_rules.specs.{with_stack, needs_flush, unflushed_by, IsRefusal, is_dead_in, is_untyped_now, not_user, is_fixed, NameMay}
pub use Rattle.kernel_rules.specs.{is_finer, is_less, preemption, preempts, merged, number_of, both, place_in, Range, Amount, Cap, Return}
pub use Rattle.kernel_rules.specs.{unwrap_or, leaf_for, is_place_of, lives, NumberInRange, HeldMay, Lacks, MappedMay, VacantMay, with_rights}
pub use Rattle.kernel_rules.specs.{phase_by, core_cap, are_same, IsQualityList, right_to_use}
pub use Rattle.std.proofs.Common.{◌∙◌, ap, sym, subst, arith, inl, inr, eq-eqb, eqb-true, ne_eqb, true≢false, lt-ltb, ltb-true, ltb-false}
pub use Rattle.std.proofs.Common.{append_assoc, leb-true, append-nil, length-append, le-ltb, leb-false, le-leb, rules, length-set}
pub use Rattle.std.proofs.Common.{get_or-set_other, get_or-set_same, take_all, length-take-le, map-id}
pub use Rattle.std.proofs.lemmas.List.{length-map, get_or-map, take_more, reverse-append, get_or_past, length-reverse, map-append, drop_more}
pub use Rattle.std.proofs.lemmas.Bool.{false≢true, eqb-false, and_from, lt-leb, or_left, or_right}
unfoldable pub use Rattle.kernel_rules.specs.{refs, sum_below, node_refs, holds_nothing}
