-- What the crates above name through this one.
pub use Rattle.spk_nums
-- Its own.
pub mod State
pub mod Start
pub mod References
pub mod Access
pub mod GracePeriods
pub mod Life
pub mod Edits
pub mod Rules
pub mod CapabilityCalls
pub mod MemoryCalls
pub mod InvocationCalls
pub mod TimeCalls
pub mod CallRelation
pub mod Rows
pub mod Alone
pub mod Runs
pub mod Fitting
pub mod Relies
pub mod Ranges
pub mod Laws
-- The names that are used most outside of this library.
pub use Rattle.kernel_rules.specs.Access.{Slot, found, only, Want, to_use, reached, Under, usable, Named, Target, own, held_in, place_at, InRoot, usable_in, root_at, any}
pub use Rattle.kernel_rules.specs.Access.{root_slot, linked, root, to_part, to_copy, slot_in, has_no_slot, holds_link, to_look, not_found, capability}
pub use Rattle.kernel_rules.specs.Alone.{alone, plain_reply, plain_steps, reply_in, plain_step, first_reply, plain_replies}
pub use Rattle.kernel_rules.specs.CallRelation.{rule_of, change_of, MayReply, state_by, changed, counted, owed_by, ends, are_calls_spent, begins_in, begins, ends_by}
pub use Rattle.kernel_rules.specs.CallRelation.{flushes, flushes_by, MayBeDead}
pub use Rattle.kernel_rules.specs.CapabilityCalls.{has_frame, epoch_of, make_rule, outside, is_live, not_blank, has_frames, not_taken, is_blank, is_frame, make_node}
pub use Rattle.kernel_rules.specs.CapabilityCalls.{leaf_for, leaf_of, beyond, copy_rule}
pub use Rattle.kernel_rules.specs.Edits.{tcap_at, Edit, edited, Fill, after_edits, Untype, with_tcap, Node, Component, Give, Pop, with_thread, Charge, Merge, running}
pub use Rattle.kernel_rules.specs.Edits.{Push, with_budget, Become, Move, frames_of, Cache, Deaden, charge, moved, cleared, caching, begins_all, is_place_of}
pub use Rattle.kernel_rules.specs.Edits.{with_qualities, switched, with_stack}
pub use Rattle.kernel_rules.specs.Fitting.{fits, IsGood, EndsWithin}
pub use Rattle.kernel_rules.specs.GracePeriods.{same_thing, begun, entered, new_grace, returned, MayBeUnflushed, MayWait, lowest, is_paging, is_translated, passed}
pub use Rattle.kernel_rules.specs.GracePeriods.{flushed, needs_flush, unflushed_by, quiescing_by, other_waiting}
pub use Rattle.kernel_rules.specs.InvocationCalls.{switch_to, not_live, switch_rule, call_rule}
pub use Rattle.kernel_rules.specs.Laws.{calls_counted, ticks, IsRefusal, released}
pub use Rattle.kernel_rules.specs.Life.{is_live_in, acts, asks_life, is_dead_in, lives, may_act, outlives}
pub use Rattle.kernel_rules.specs.MemoryCalls.{translation_of, touch_by, retype_rule, is_empty, not_retyped, is_untyped, is_user, is_untyped_now, not_user, translated}
pub use Rattle.kernel_rules.specs.MemoryCalls.{retypes, map_rule, not_untyped}
pub use Rattle.kernel_rules.specs.Ranges.{InRanges, FrameInRange, NumberInRange, budget_at}
pub use Rattle.kernel_rules.specs.References.{times, frame_names, named_by, place_names, number_names, core_names}
pub use Rattle.kernel_rules.specs.Relies.{is_node, IsGuarded, is_fixed}
pub use Rattle.kernel_rules.specs.Rules.{Found, Refused, Judged, named, Change, does, IsFoundAnd, RuleMay, Does, unless, and_then, outcome, Rule, first_of, Cause}
pub use Rattle.kernel_rules.specs.Rules.{first_cause, mapped, vacant, Vacant, or_refuse, held, Name, name_of, Held, Mapped, of_kind, When, Unflushed, refusal_of}
pub use Rattle.kernel_rules.specs.Rules.{WaitedFor, waits_of, OneMay, flushes_of, not_vacant, NameMay, HeldMay, MappedMay, VacantMay, Lacks, slot_of, with_rights}
pub use Rattle.kernel_rules.specs.Rules.{UnflushedMay, WaitedMay, CauseMay, ReachesHeld, ReachesLacking, ReachesNone, ReachesOther}
pub use Rattle.kernel_rules.specs.Runs.{after, Event, IsRun, Decides, Enters, Returns, is_open, phase_of, Open, Out, is_in, Phase, Decided, is_decided, core_of, phase_by}
pub use Rattle.kernel_rules.specs.Runs.{MayDecide, MayFollow}
pub use Rattle.kernel_rules.specs.Start.{start, plain_cap, no_grace, start_cap, place_with, start_place, start_frame, granted, start_number, core_cap, start_comp}
pub use Rattle.kernel_rules.specs.Start.{start_core}
pub use Rattle.kernel_rules.specs.State.{Kernel, Frame, put, PlaceOf, Thing, Comp, Thread, FrameOf, Holds, Tcap, thread_in, Untyped, comp_of, Place, thread_of, Blank}
pub use Rattle.kernel_rules.specs.State.{Quiescing, comp_in, Pages, Free, Leaf, Pleaf, Table, TcapFields, Core, NumberOf, User, CompFields, Limits, Live, ThreadFields}
pub use Rattle.kernel_rules.specs.State.{Dead, tcap_in, Grace, Liveness, first_of_stack, with_frame, with_core, Object, Unused, outstanding, with_place, with_grace}
pub use Rattle.kernel_rules.specs.State.{with_number}
pub use Rattle.kernel_rules.specs.TimeCalls.{merged_list, is_short, are_alike, are_many, preempts, are_unlike, preemption, is_finer, is_less, are_same, replenish_rule}
pub use Rattle.std.specs.Prelude.{◌≡◌, ℕ, Some, List, [], refl, ◌∷◌, ◌<◌, None, true, false, Option, Bool, ◌+◌, ◌≤◌, length, if◌then◌else◌}
pub use Rattle.std.specs.Prelude.{◌++◌, ◌==◌, ◌≢◌, IsTrue, ◌&&◌, suc, ◌⊎◌, ltb, slice_get, ◌^◌, map, ◌-◌, zero, not, get_or, All, ◌||◌, ◌*◌}
pub use Rattle.std.specs.Prelude.{leb, take, is_some, IsSome, cond, string_bytes, drop, pos, min, ℤ, set, codes, Ok, IfSome, reverse, IsFalse}
pub use Rattle.std.specs.Prelude.{IsSomeAnd, ◌+ℤ◌, flat_map, option_map, Result, Err, ◌%◌, negsuc, option_to_list, max, decimal, ◌/◌}
pub use Rattle.std.specs.Prelude.{slice_index, find, option_and_then, sum_by, replicate, IfOk, vec_capacity, ok_or, eqb, ◌↔◌, fold, unwrap_or}
pub use Rattle.std.specs.Prelude.{◌-ℤ◌, MatchOption}
pub use Rattle.spk_nums.specs.{Setting.Setting, Setting.IsSetting, declared.calls.Call.Call, declared.replies.Reply.Reply}
pub use Rattle.spk_nums.specs.{Capability.Capability, Capability.cap_of, declared.kinds.Kind.Kind, declared.kinds.FrameKind.FrameKind}
pub use Rattle.spk_nums.specs.{declared.replies.Value.Value, declared.calls.Make.Make, declared.calls.Call.TheVariants.Tick}
pub use Rattle.spk_nums.specs.{declared.calls.Call.TheVariants.Retype, declared.calls.Call.TheVariants.Replenish}
pub use Rattle.spk_nums.specs.{declared.calls.Call.TheVariants.Map, declared.calls.Call.TheVariants.Switch}
pub use Rattle.spk_nums.specs.{declared.calls.Call.TheVariants.Flush, declared.calls.Call.TheVariants.Gate}
pub use Rattle.spk_nums.specs.{declared.calls.Call.TheVariants.Transfer, declared.calls.Call.TheVariants.Delegate}
pub use Rattle.spk_nums.specs.{declared.calls.Call.TheVariants.Kill, declared.calls.Call.TheVariants.Part}
pub use Rattle.spk_nums.specs.{declared.calls.Call.TheVariants.Remove, declared.calls.Call.TheVariants.Copy}
pub use Rattle.spk_nums.specs.{declared.calls.Call.TheVariants.Test, declared.calls.Call.TheVariants.Touch}
pub use Rattle.spk_nums.specs.{declared.calls.Call.TheVariants.Look, declared.calls.Call.TheVariants.Grow}
pub use Rattle.spk_nums.specs.{declared.calls.Call.TheVariants.Shrink, declared.calls.Call.TheVariants.Unmap}
pub use Rattle.spk_nums.specs.{declared.calls.Call.TheVariants.Ret, declared.replies.Value.TheVariants.Nothing}
pub use Rattle.spk_nums.specs.{declared.replies.Value.TheVariants.Amount, declared.replies.Value.TheVariants.Cap}
pub use Rattle.spk_nums.specs.{declared.replies.Value.TheVariants.Page, CallLimits.InLimits, declared.translations.Translation.Translation}
pub use Rattle.spk_nums.specs.{declared.steps.StageEnd.StageEnd, Rights.has_rights, Rights.whole_copy, Rights.part_of, Rights.kept}
pub use Rattle.spk_nums.specs.{Rights.right_to_use, Rights.both, Rights.right_to_copy, Rights.least_rights, declared.kinds.Obj.Obj}
pub use Rattle.spk_nums.specs.{declared.kinds.PageFlags.PageFlags, declared.steps.Item.Item, declared.translations.CoreEnd.CoreEnd}
pub use Rattle.spk_nums.specs.{WordSteps.left_if, WordSteps.place_in, declared.replies.Decision.Decision, Bounds.bound_of, Texts.reply_text}
pub use Rattle.spk_nums.specs.{Texts.with_one, Texts.call_text, Merging.covers, Merging.number_of, Merging.merged}
pub use Rattle.spk_nums.specs.{declared.steps.How.TheVariants.Return, declared.steps.How.TheVariants.Decide, declared.steps.How.TheVariants.One}
pub use Rattle.spk_nums.specs.{declared.steps.How.TheVariants.Ready, declared.grants.Grant.Grant, declared.steps.How.How, CoreSets.has_core}
pub use Rattle.spk_nums.specs.{declared.kinds.Kind.TheVariants.Range, declared.steps.WordOp.WordOp, Qualities.IsQualityList}
unfoldable pub use Rattle.kernel_rules.specs.{MemoryCalls.holds_nothing, References.refs, References.sum_below, References.node_refs}
