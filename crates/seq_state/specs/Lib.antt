-- What the crates above name through this one.
pub use Rattle.kernel_invariant.specs.spk_nums
pub use Rattle.kernel_invariant
pub use Rattle.kernel_invariant.specs.kernel_rules
-- Its own.
pub mod Stacks
pub mod Parts
pub mod Times
pub mod Maps
pub mod Representation
pub mod Kernel
pub mod Passing
pub mod Counted
-- The names that are used most outside of this library.
pub use Rattle.seq_state.specs.Kernel.{maps_of}
pub use Rattle.seq_state.specs.Maps.{at, count_at, grace_from, HasAll, frame_or_untyped, IsWhole, core_or_none, number_or_unused, place_or_free, at_place, HasBegun}
pub use Rattle.seq_state.specs.Maps.{NamesFew, is_inside, period_of, period_or_none, HasKeys}
pub use Rattle.seq_state.specs.Parts.{frame_of, core_of, number_of, place_held, thing_of}
pub use Rattle.seq_state.specs.Representation.{Represents, SameState, SameGrace, IsThing, with_grace_of, HasIndex}
pub use Rattle.seq_state.specs.Times.{times_at, no_period, no_times, TimesFit, before, ranked}
pub use Rattle.std.specs.Prelude.{◌≡◌, ◌<◌, ◌++◌, ◌∷◌, ◌≤◌, ◌+◌, if◌then◌else◌, ◌==◌, ◌&&◌, ◌≢◌, ◌^◌, ◌⊎◌, ◌-◌, ◌||◌, ◌*◌, ◌%◌}
pub use Rattle.kernel_invariant.specs.kernel_rules.specs.{ℕ, List, refl, Some, [], Bool, true, Call, Option, None, length}
pub use Rattle.kernel_invariant.specs.kernel_rules.specs.{false, Setting, Reply, string_bytes, Capability}
pub use Rattle.kernel_invariant.specs.kernel_rules.specs.{IsSetting, Found, Kind, Event, after, Judged, Refused, IsRun, Limits, not}
pub use Rattle.kernel_invariant.specs.kernel_rules.specs.{IsTrue, suc, get_or, ltb, slice_get, take, Slot, zero, map, Change, named, Comp}
pub use Rattle.kernel_invariant.specs.kernel_rules.specs.{Open, comp_of, All, found, drop, only, usable, phase_of, Retype, leb}
pub use Rattle.kernel_invariant.specs.kernel_rules.specs.{reverse, change_of, Decides, to_use, PlaceOf, Untyped, Ok, rule_of, Holds}
pub use Rattle.kernel_invariant.specs.kernel_rules.specs.{FrameKind, Named, Thread, thread_in, Tick, codes, Cause, Enters, InLimits, Returns}
pub use Rattle.kernel_invariant.specs.kernel_rules.specs.{Free, Quiescing, is_some, Result, held_in, translation_of, Rule, mapped}
pub use Rattle.kernel_invariant.specs.kernel_rules.specs.{comp_in, outstanding, put, Delegate, Flush, Replenish, Touch, Transfer, Translation}
pub use Rattle.kernel_invariant.specs.kernel_rules.specs.{IsFalse, Err, RuleMay, Out, is_open, tcap_in, Map, Value, set, Under, has_frame}
pub use Rattle.kernel_invariant.specs.kernel_rules.specs.{fits, Does, IsFoundAnd, Name, and_then, Gate, Part, min, cond, IfSome, Want, own}
pub use Rattle.kernel_invariant.specs.kernel_rules.specs.{place_at, reached, alone, MayReply, state_by, epoch_of, begun, acts, retype_rule}
pub use Rattle.kernel_invariant.specs.kernel_rules.specs.{frame_names, FrameOf, User, with_core, Copy, Look, Switch, Test, decimal, option_map}
pub use Rattle.kernel_invariant.specs.kernel_rules.specs.{Target, root_at, usable_in, reply_in, tcap_at, is_live_in, core_names, number_names}
pub use Rattle.kernel_invariant.specs.kernel_rules.specs.{place_names, is_node, Held, Mapped, Vacant, held, NumberOf, Pages, Table, with_frame}
pub use Rattle.kernel_invariant.specs.kernel_rules.specs.{Grow, Kill, Remove, Ret, Shrink, Unmap, Item, flat_map, entered, switch_to, OneMay}
pub use Rattle.kernel_invariant.specs.kernel_rules.specs.{name_of, Decided, Phase, is_decided, is_in, no_grace, Blank, Leaf, Live, Pleaf}
pub use Rattle.kernel_invariant.specs.kernel_rules.specs.{thread_of, eqb, option_and_then, are_calls_spent, changed, outside, returned}
pub use Rattle.kernel_invariant.specs.kernel_rules.specs.{touch_by, does, first_cause, or_refuse, outcome, unless, vacant, Dead, Grace, Nothing}
pub use Rattle.kernel_invariant.specs.kernel_rules.specs.{find, IsSome, IsSomeAnd, IfOk, InRoot, root, plain_step, counted, owed_by}
pub use Rattle.kernel_invariant.specs.kernel_rules.specs.{not_blank, Fill, same_thing, IsRefusal, ticks, is_empty, When, plain_cap, Tcap}
pub use Rattle.kernel_invariant.specs.kernel_rules.specs.{Unused, with_place, has_rights, reply_text, PageFlags}
pub use Rattle.kernel_invariant.specs.kernel_rules.specs.State.{State}
pub use Rattle.kernel_invariant.specs.spk_nums.specs.declared.calls.Call.TheVariants.{Make}
unfoldable pub use Rattle.seq_state.specs.Maps.{state_of}
unfoldable pub use Rattle.kernel_invariant.specs.kernel_rules.specs.{sum_below, refs, node_refs}
