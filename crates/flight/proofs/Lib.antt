-- Steps and their words.
pub mod CoreFits
pub mod Spelling
pub mod ByPlace
pub mod AfterStep
-- The theorem.
pub mod Boot
pub mod Entries
pub mod Advance
pub mod Final
pub mod Alike
pub mod Made
-- The phases of calls.
pub mod Phases
-- The names that are used most outside of this library.
pub use Rattle.flight.proofs.{ByPlace.left_is, ByPlace.place_is, Phases.made_of_its_cores, Phases.made_phases, Spelling.moves_are_words}
pub use Rattle.work_invariant.specs.step_ways.proofs.{◌≡◌, ◌∙◌, ap, sym, subst, ℕ, length, refl, [], arith, ◌<◌, ◌∷◌, Some, ◌++◌, List, Setting}
pub use Rattle.work_invariant.specs.step_ways.proofs.{Trace, Call, None, Option, map, IsSetting, false, inl, true, inr, get_or, Bool, Reply}
pub use Rattle.work_invariant.specs.step_ways.proofs.{◌≤◌, phase, ◌+◌, Step, state_after, All, false≢true, take, ◌≢◌, suc, Core, Invariant}
pub use Rattle.work_invariant.specs.step_ways.proofs.{last_left, calls_of, Out, length-map, Open, string_bytes, word_of, eq-eqb, Stage}
pub use Rattle.work_invariant.specs.step_ways.proofs.{after_enter, ◌^◌, slice_get, State, Undecided, if◌then◌else◌, ◌==◌, shape_of, move_of}
pub use Rattle.work_invariant.specs.step_ways.proofs.{Word, ◌⊎◌, Own, decided_in, IsLegal, Phase, left_of, rules, append-nil, Enter, Leave}
pub use Rattle.work_invariant.specs.step_ways.proofs.{Living, CallIs, marked_by, ne_eqb, length-append, append_assoc, IsTrue, IsSome, KnowsAt}
pub use Rattle.work_invariant.specs.step_ways.proofs.{phase_at, CountAt, EntryAt, zero, eqb-true, ◌&&◌, Acquire, Act, told_by, limits_of}
pub use Rattle.work_invariant.specs.step_ways.proofs.{held_by, cases_word, word_in, MayDecide, after_decide, state_before, InLimits, Move}
pub use Rattle.work_invariant.specs.step_ways.proofs.{Shape, core_after, IfSome, is_some, option_to_list, settled_by, holds_in, end_in, told_of}
pub use Rattle.work_invariant.specs.step_ways.proofs.{ℤ, set, Untyping, Untype, Lookup, Read, Scan, told_in, told_of_step, IsCore, steps_left}
pub use Rattle.work_invariant.specs.step_ways.proofs.{sum_by, is_done, last_left-here, phase-other, events_of, Represent, count_mark, put_other}
pub use Rattle.work_invariant.specs.step_ways.proofs.{put_same, Capability, AtCompare, AtDraw, AtStore, Pair, PairAt, get_or-map, vec_capacity}
pub use Rattle.work_invariant.specs.step_ways.proofs.{take_all, Tail, Release, plan_for, absorbed, Took, took_at, holds_counts, count_of_word}
pub use Rattle.work_invariant.specs.step_ways.proofs.{CountWord, run_of, hold_mark, after_return, decision_at, Item, Acquired, get_or_past}
pub use Rattle.work_invariant.specs.step_ways.proofs.{take_more, IsIn, place_of, true≢false, UntypingAt, Outside, Nothing, absorbed_in, end_of}
pub use Rattle.work_invariant.specs.step_ways.proofs.{Changes, Decides, GoesOn, Returns, landed, flat_map, option_map, Holding, committed}
pub use Rattle.work_invariant.specs.step_ways.proofs.{settled, holds, Closed, Pinned, phase-own, MayFollow, state_entered, Frame, Retype, Kind}
pub use Rattle.work_invariant.specs.step_ways.proofs.{Decision, unheld, ◌-◌, eqb, pos, length-take-le, map-id, reply_of, CompMaking, Fill}
pub use Rattle.work_invariant.specs.step_ways.proofs.{Flush, Invoke, Kill, MakeComp, Map, Refill, Remove, Return, Share, Switch, Tick, Touch}
pub use Rattle.work_invariant.specs.step_ways.proofs.{Pop, Push, Quiesce, StoreDead, StoreFlush, StoreIdle, StoreLive, StoreRunning, Unmark}
pub use Rattle.work_invariant.specs.step_ways.proofs.{Work, move_in, started, stage_move, took, slice_index, Err, Ok, holds_at, KnowsAct}
pub use Rattle.work_invariant.specs.step_ways.proofs.{word_of_count, state_is, same_word-other, calls_of-own, last_left-there, RepresentCounts}
pub use Rattle.work_invariant.specs.step_ways.proofs.{count_at, count_in, HasCalls, IsIdle, list_of, is_in, MayReply, is_node, IsRun, Kernel}
pub use Rattle.work_invariant.specs.step_ways.proofs.{FrameKind, Value, StageEnd, acquired, Pin, frozen, call_is, CompareOf, StoreOf, CoreAt}
pub use Rattle.flight.specs.{IsMade, cores_after, stepping_core, turned, ready_after, MayStep}
pub use Rattle.call_fits.specs.call_stages.specs.act_states.specs.declared.work.Act.TheVariants.{Make}
