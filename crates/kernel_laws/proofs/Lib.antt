pub mod Ticks
pub mod TicksLaw
pub mod Lists
pub mod Shapes
pub mod RangesLaw
pub mod FewRefs
pub mod Causes
pub mod Lacking
pub mod NodeSteps
pub mod NodesLaw
pub mod Spending
pub mod Back
pub mod Rows
pub mod TwoCores
-- The names that are used most outside of this library.
pub use Rattle.kernel_laws.proofs.{Causes.leads_is, NodeSteps.IsFitted, NodesLaw.runs_fit, NodesLaw.mapped_page, NodesLaw.held_is}
pub use Rattle.kernel_laws.proofs.{RangesLaw.runs_shape, Shapes.Shaped}
pub use Rattle.found_stays.specs.kernel_rules.proofs.{◌≡◌, ◌∙◌, ap, sym, ℕ, subst, refl, ◌<◌, ◌∷◌, Some, [], arith, List, None, true, false}
pub use Rattle.found_stays.specs.kernel_rules.proofs.{Setting, Bool, Option, IsSetting, inl, inr, Call, Reply, length, ◌≤◌, if◌then◌else◌, ◌+◌}
pub use Rattle.found_stays.specs.kernel_rules.proofs.{◌++◌, false≢true, ◌≢◌, ◌==◌, IsTrue, Capability, Kernel, Kind, map, eq-eqb, ◌⊎◌, suc, ◌^◌}
pub use Rattle.found_stays.specs.kernel_rules.proofs.{Found, Frame, ◌&&◌, PlaceOf, put, change_of, rule_of, put_same, eqb-true, ltb, not}
pub use Rattle.found_stays.specs.kernel_rules.proofs.{Refused, All, Comp, Thing, zero, get_or, Slot, fits, found, thread_in, MayReply, after}
pub use Rattle.found_stays.specs.kernel_rules.proofs.{Thread, ◌||◌, FrameOf, slice_get, Holds, ne_eqb, take, Tcap, leb, counted, comp_in}
pub use Rattle.found_stays.specs.kernel_rules.proofs.{comp_of, Value, IsRun, Untyped, only, does, Change, Event, Place, Tick, ◌-◌, thread_of}
pub use Rattle.found_stays.specs.kernel_rules.proofs.{string_bytes, state_by, put_other, Judged, IsSome, changed, IsFoundAnd, Blank, Pages}
pub use Rattle.found_stays.specs.kernel_rules.proofs.{is_node, Core, FrameKind, RuleMay, named, Free, Leaf, Retype, NumberOf, Pleaf, Quiescing}
pub use Rattle.found_stays.specs.kernel_rules.proofs.{Table, TcapFields, lt-ltb, Decides, Nothing, is_some, to_use, times, User, cond, reached}
pub use Rattle.found_stays.specs.kernel_rules.proofs.{unless, pos, drop, frame_names, Limits, Want, first_of, Under, CompFields, Target}
pub use Rattle.found_stays.specs.kernel_rules.proofs.{InLimits, ◌*◌, own, usable, tcap_at, Enters, ThreadFields, first_of_stack, outcome}
pub use Rattle.found_stays.specs.kernel_rules.proofs.{Returns, eqb-false, ltb-false, true≢false, is_live_in, named_by, append_assoc, Edit}
pub use Rattle.found_stays.specs.kernel_rules.proofs.{is_open, Live, Liveness, length-map, IfFound, owed_by, Fill, Does, Grace, Map, Replenish}
pub use Rattle.found_stays.specs.kernel_rules.proofs.{Switch, ℤ, Named, held_in, place_at, and_then, Dead, Delegate, Flush, Transfer}
pub use Rattle.found_stays.specs.kernel_rules.proofs.{Translation, usable_in, begins_in, tcap_in, Kill, append-nil, are_calls_spent, ends}
pub use Rattle.found_stays.specs.kernel_rules.proofs.{same_thing, Test, ltb-true, ◌+ℤ◌, edited, acts, first_cause, plain_cap, left_if, Copy}
pub use Rattle.found_stays.specs.kernel_rules.proofs.{Gate, Look, Part, Remove, Shrink, Touch, Unmap, alone, begins, flushes, has_frame}
pub use Rattle.found_stays.specs.kernel_rules.proofs.{Component, with_core, with_frame, Grow, Ret, min, leb-true, Merge, after_edits, Unused}
pub use Rattle.found_stays.specs.kernel_rules.proofs.{set, IfSome, ends_by, Pop, calls_counted, translation_of, phase_of, start, negsuc}
pub use Rattle.found_stays.specs.kernel_rules.proofs.{length-append, InRoot, place_names, Cause, or_refuse, max, Ok, Give, Move, Push, Untype}
pub use Rattle.found_stays.specs.kernel_rules.proofs.{with_tcap, new_grace, touch_by, number_names, Open, option_to_list, flushes_by, outside}
pub use Rattle.found_stays.specs.kernel_rules.proofs.{Charge, Node, with_thread, begun, returned, Object, with_place, rules, flat_map, Result}
pub use Rattle.found_stays.specs.kernel_rules.proofs.{Err, root_at, epoch_of, is_live, Become, Deaden, entered, retype_rule, vacant, cap_of}
pub use Rattle.found_stays.specs.kernel_rules.proofs.{get_or-map, le-ltb, leb-false, IsSomeAnd, option_map, root_slot, not_blank, Cache}
pub use Rattle.found_stays.specs.kernel_rules.proofs.{frames_of, switch_to, mapped, no_grace, outstanding, ◌%◌, le-leb, codes, IsFalse, any}
pub use Rattle.found_stays.specs.kernel_rules.proofs.{linked, running, is_empty, Rule, with_grace, kept, part_of, ◌/◌, take_all, reverse}
pub use Rattle.found_stays.specs.kernel_rules.proofs.{make_rule, with_budget, IsGood, Vacant, of_kind, Out, is_in, Item, and_from, take_more}
pub use Rattle.found_stays.specs.kernel_rules.proofs.{sum_by, IfOk, is_blank, is_untyped, core_names, IsGuarded, When, held, name_of, PageFlags}
pub use Rattle.found_stays.specs.kernel_rules.proofs.{get_or_past, vec_capacity, length-take-le, waits_inside, root, slot_in, is_frame, caching}
pub use Rattle.found_stays.specs.kernel_rules.proofs.{charge, EndsWithin, is_paging, asks_life, InRanges, not_vacant, is_decided, is_short}
pub use Rattle.found_stays.specs.kernel_rules.proofs.{has_rights, Decision, eqb, map-append, slice_index, has_no_slot, holds_link, reply_in}
pub use Rattle.found_stays.specs.kernel_rules.proofs.{has_frames, not_taken, MayBeUnflushed, MayWait, is_translated, lowest, unflushed_by}
pub use Rattle.found_stays.specs.kernel_rules.proofs.{not_retyped, Unflushed, flushes_of, refusal_of, waits_of, Decided, Phase, place_with}
pub use Rattle.found_stays.specs.kernel_rules.proofs.{start_cap, are_alike, are_many, are_unlike, preemption, preempts, Obj, StageEnd, CoreEnd}
pub use Rattle.found_stays.specs.kernel_rules.proofs.{length-set, get_or-set_same, map-id, reverse-append, find, to_copy, to_look, begins_all}
pub use Rattle.found_stays.specs.kernel_rules.proofs.{is_place_of, is_user, not_user, FrameInRange, OneMay, WaitedFor, merged_list, covers}
pub use Rattle.found_stays.specs.kernel_rules.proofs.{both, place_in, Return}
pub use Rattle.found_stays.specs.kernel_invariant.proofs.{opened, IsOpen, none_some, limits_stay, some_inj, put_all, open_is, only_is, IsSound}
pub use Rattle.found_stays.specs.kernel_invariant.proofs.{Calm, named_fit, suits, runs_sound, outcome_from, IsObjectGood, AreLater, sum_one}
pub use Rattle.found_stays.specs.kernel_invariant.proofs.{open_limits, times_cons, Each, named_good, frame_refs, grace_refs, IsStack, found_by}
pub use Rattle.found_stays.specs.kernel_invariant.proofs.{ChangesFrom, phase_other, times_first, is_bare, ends_by_rule, then_parts, flushed_by}
pub use Rattle.found_stays.specs.kernel_invariant.proofs.{grace_is, inside_is, place_all, Tested, after_ok, or_found, phase_own}
pub use Rattle.found_stays.proofs.{name_parts, core_same_refs}
pub use Rattle.found_stays.specs.kernel_rules.specs.{State.State, Relies.Relies}
pub use Rattle.found_stays.specs.spk_nums.specs.declared.calls.Call.TheVariants.{Make}
pub use Rattle.found_stays.specs.kernel_invariant.proofs.Edited.{Edits}
unfoldable pub use Rattle.found_stays.specs.kernel_rules.specs.{refs, sum_below, node_refs}
