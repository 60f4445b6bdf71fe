pub mod Lists
pub mod Same
pub mod Counting
pub mod StackLemmas
pub mod MapLemmas
pub mod SetLemmas
pub mod StartLemmas
pub mod CountLemmas
pub mod SetterLemmas
pub mod TimeLemmas
pub mod RankLemmas
-- The names that are used most outside of this library.
pub use Rattle.seq_state.proofs.Same.{same_by, same_then, same_grace_by, same_core, same_refs, same_frame}
pub use Rattle.kernel_invariant.specs.kernel_rules.proofs.{◌≡◌, ◌∙◌, sym, ap, subst, ℕ, refl, arith, List, ◌<◌, [], Bool, true, ◌++◌, Some, ◌∷◌}
pub use Rattle.kernel_invariant.specs.kernel_rules.proofs.{length, false, ◌+◌, ◌≤◌, None, Option, Call, if◌then◌else◌, inr, inl, Reply}
pub use Rattle.kernel_invariant.specs.kernel_rules.proofs.{string_bytes, ◌==◌, Setting, false≢true, Capability, IsSetting, ◌&&◌, Limits, Found}
pub use Rattle.kernel_invariant.specs.kernel_rules.proofs.{Kind, suc, get_or, not, IsTrue, Refused, Judged, after, Event, take, map, IsRun, ltb}
pub use Rattle.kernel_invariant.specs.kernel_rules.proofs.{zero, ◌≢◌, slice_get, named, Comp, drop, Change, leb, Slot, comp_of, ◌-◌, All, found}
pub use Rattle.kernel_invariant.specs.kernel_rules.proofs.{Decides, eq-eqb, true≢false, append_assoc, only, change_of, rule_of, Untyped, ◌^◌}
pub use Rattle.kernel_invariant.specs.kernel_rules.proofs.{◌⊎◌, to_use, usable, Open, PlaceOf, reverse, Holds, Thread, thread_in, Retype}
pub use Rattle.kernel_invariant.specs.kernel_rules.proofs.{eqb-true, ne_eqb, Enters, phase_of, Free, put, ◌||◌, append-nil, Named, Cause}
pub use Rattle.kernel_invariant.specs.kernel_rules.proofs.{Returns, is_open, Quiescing, tcap_in, Tick, FrameKind, ltb-true, length-map, is_some}
pub use Rattle.kernel_invariant.specs.kernel_rules.proofs.{held_in, fits, IsFoundAnd, mapped, comp_in, outstanding, InLimits, Value}
pub use Rattle.kernel_invariant.specs.kernel_rules.proofs.{Translation, ◌*◌, lt-ltb, set, cond, IsFalse, Ok, IfFound, translation_of, RuleMay}
pub use Rattle.kernel_invariant.specs.kernel_rules.proofs.{and_then, with_core, Flush, min, le-ltb, Result, Err, own, reached, usable_in}
pub use Rattle.kernel_invariant.specs.kernel_rules.proofs.{MayReply, state_by, retype_rule, is_node, Pages, Table, User, Delegate, Replenish}
pub use Rattle.kernel_invariant.specs.kernel_rules.proofs.{Transfer, leb-true, IfSome, Under, Want, place_at, epoch_of, has_frame, tcap_at}
pub use Rattle.kernel_invariant.specs.kernel_rules.proofs.{begun, entered, switch_to, is_live_in, core_names, frame_names, number_names}
pub use Rattle.kernel_invariant.specs.kernel_rules.proofs.{place_names, Does, Name, Rule, held, name_of, Out, is_decided, Leaf, Live, Pleaf}
pub use Rattle.kernel_invariant.specs.kernel_rules.proofs.{Copy, Gate, Map, Part, Switch, Touch, get_or-map, codes, eqb, Target, root_at}
pub use Rattle.kernel_invariant.specs.kernel_rules.proofs.{reply_in, are_calls_spent, returned, acts, touch_by, Held, Mapped, OneMay, Vacant}
pub use Rattle.kernel_invariant.specs.kernel_rules.proofs.{first_cause, or_refuse, unless, Decided, Phase, is_in, no_grace, Blank, Dead}
pub use Rattle.kernel_invariant.specs.kernel_rules.proofs.{FrameOf, Grace, NumberOf, thread_of, with_frame, Grow, Kill, Look, Remove, Ret}
pub use Rattle.kernel_invariant.specs.kernel_rules.proofs.{Shrink, Test, Unmap, and_from, length-append, reverse-append, find, flat_map}
pub use Rattle.kernel_invariant.specs.kernel_rules.proofs.{option_map, IfOk, alone, changed, counted, not_blank, outside, Fill, is_empty, does}
pub use Rattle.kernel_invariant.specs.kernel_rules.proofs.{outcome, vacant, Tcap, Unused, Nothing}
pub use Rattle.kernel_invariant.proofs.{limits_stay, opened, none_some, some_inj, runs_sound, IsOpen, open_is, IsObjectGood, named_fit, IsSound}
pub use Rattle.seq_state.specs.{State, Represents, Make, SameState, SameGrace}
unfoldable pub use Rattle.seq_state.specs.{state_of, sum_below, refs}
