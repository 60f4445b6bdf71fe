-- The names of the crates below that the files of this crate use, in one place: a file takes them from here.
pub use Rattle.call_stages.specs.act_states.specs.{◌≡◌, ℕ, ◌≤◌, ◌+◌, ◌<◌, true, Bool, false, Option, Some, None, ◌==◌, length, refl}
pub use Rattle.call_stages.specs.act_states.specs.{ltb as nat_lt, dues, ◌-◌, IfSome, slice_get, refuse, List, Reply, next_work, [], Shape}
pub use Rattle.call_stages.specs.act_states.specs.{if◌then◌else◌, ◌∷◌, QuietFits, quiet_scan, Quiet, Acquired, Kind, Range, Capability}
pub use Rattle.call_stages.specs.act_states.specs.{drawn_stamp, AllFit, FrameKind, StageEnd, live_of_word, LiveWord, quiet_after, quiet_end}
pub use Rattle.call_stages.specs.act_states.specs.{refusal_of, ScanFits, left_of_scan, comp_dues, ℤ, pos, negsuc, ◌*◌, CapNames, ActFits}
pub use Rattle.call_stages.specs.act_states.specs.{act_left, killing_dues, invoking_dues, returning_dues, released_dues, untyping_dues}
pub use Rattle.call_stages.specs.act_states.specs.{switching_dues, Claimed, stack_of_word, StackWord, ◌≢◌, first_other, core_scan, Obj}
pub use Rattle.call_stages.specs.act_states.specs.{frame_of_word, FrameWord, suc, cap_of, object_dues, counts_of, last_word, cap_dues}
pub use Rattle.call_stages.specs.act_states.specs.{made_dues, SwitchAtFits, SwitchingFits, tcap_dues, switch_due_list, ◌++◌, comp_of_word}
pub use Rattle.call_stages.specs.act_states.specs.{CompWord, frame_in, InLimits, plan_for, look_steps, act_steps, Call, Make as make_call, Gate}
pub use Rattle.call_stages.specs.act_states.specs.{Grow, Switch, Transfer, Delegate, Test, Part, Replenish, found, end_of_frames, First, Second}
pub use Rattle.call_stages.specs.act_states.specs.{Third, Fourth, at_place, ◌&&◌, word_of_head, head_of_word, quality_of_word, HeadWord}
pub use Rattle.call_stages.specs.act_states.specs.{QualityWord, end_by_mark, head_end, in_order, Value, AtCore, AtFlush, next_other}
pub use Rattle.call_stages.specs.act_states.specs.{quiet_refuses, scan_end, scan_after, LoadA, PairWork, share_left, flush_scan, Entry}
pub use Rattle.call_stages.specs.stage_tcap.proofs.{arith, subst, sym, ltb-true, ap, ltb-false, eqb-true, eqb-false, Comp as KindComp, Make}
pub use Rattle.call_stages.specs.stage_tcap.proofs.{Untyped, User, Kernel}
pub use Rattle.call_stages.specs.{landed, steps_later, work_left, tail_left, TailFits, GoesOn, went_with, left_at, FoundFits, IsOwn, took_tail}
pub use Rattle.call_stages.specs.{tail_counts}
pub use Rattle.call_stages.specs.act_states.specs.declared.work.WorkStep.TheVariants.{Goes, Refuses, Answers, Changes, Acquires}
pub use Rattle.call_stages.specs.act_states.specs.declared.own.Own.{Own}
pub use Rattle.call_stages.specs.act_states.specs.declared.refusals.Refusal.{Refusal}
pub use Rattle.call_stages.specs.act_states.specs.declared.work.Act.{Act as ActType}
pub use Rattle.call_stages.specs.act_states.specs.declared.work.Work.TheVariants.{Act}
pub use Rattle.call_stages.specs.act_states.specs.declared.work.Act.TheVariants.{MakeComp as comp_act, Kill as kill_act, Untype as untype_act}
pub use Rattle.call_stages.specs.act_states.specs.declared.work.Act.TheVariants.{Invoke as invoke_act, Return as return_act}
pub use Rattle.call_stages.specs.act_states.specs.declared.work.Act.TheVariants.{Switch as switch_act, Touch as touch_act, Share as share_act}
pub use Rattle.call_stages.specs.act_states.specs.declared.work.Act.TheVariants.{Refill as refill_act, Fill as fill_act, Remove as remove_act}
pub use Rattle.call_stages.specs.act_states.specs.declared.work.Act.TheVariants.{Retype as type_act, Make as make_act, Outside}
pub use Rattle.call_stages.specs.act_states.specs.declared.work.Act.TheVariants.{Tick as tick_act, Flush as flush_act, Map as map_act}
pub use Rattle.call_stages.specs.act_states.specs.declared.comps.CompAt.{CompAt}
pub use Rattle.call_stages.specs.act_states.specs.declared.comps.CompMaking.{CompMaking}
pub use Rattle.call_stages.specs.act_states.specs.declared.work.Tail.{Tail}
pub use Rattle.call_stages.specs.act_states.specs.declared.objects.NewObject.{NewObject}
pub use Rattle.call_stages.specs.act_states.specs.declared.objects.NewObject.TheVariants.{Table as NewTable, Leaf as NewLeaf, Pages as NewPages}
pub use Rattle.call_stages.specs.act_states.specs.declared.objects.NewObject.TheVariants.{Pleaf as NewPleaf, Thread as NewThread}
pub use Rattle.call_stages.specs.act_states.specs.declared.objects.NewObject.TheVariants.{Tcap as NewTcap}
pub use Rattle.call_stages.specs.act_states.specs.declared.kills.KillingAt.{KillingAt}
pub use Rattle.call_stages.specs.act_states.specs.declared.kills.KillingAt.TheVariants.{LoadComp, LoadLive, Close as kill_close}
pub use Rattle.call_stages.specs.act_states.specs.declared.kills.KillingAt.TheVariants.{Draw as kill_draw}
pub use Rattle.call_stages.specs.act_states.specs.declared.invocations.InvokingAt.{InvokingAt}
pub use Rattle.call_stages.specs.act_states.specs.declared.invocations.ReturningAt.{ReturningAt}
pub use Rattle.call_stages.specs.act_states.specs.declared.work.WorkStep.{WorkStep}
pub use Rattle.call_stages.specs.act_states.specs.declared.untypings.UntypingAt.{UntypingAt}
pub use Rattle.call_stages.specs.act_states.specs.declared.switches.Switching.{Switching}
pub use Rattle.call_stages.specs.act_states.specs.declared.switches.SwitchAt.{SwitchAt}
pub use Rattle.call_stages.specs.act_states.specs.declared.work.Tail.TheVariants.{Nothing}
pub use Rattle.call_stages.specs.act_states.specs.Scans.{IsUnpaged, left_of_cores}
pub use Rattle.call_stages.specs.act_states.specs.declared.makings.MakingAt.{MakingAt}
pub use Rattle.call_stages.specs.act_states.specs.declared.makings.MakingAt.TheVariants.{Load as make_load, Mark, Store, Fill as fill_at}
pub use Rattle.call_stages.specs.act_states.specs.declared.own.OwnChange.TheVariants.{GivesBack, Caches}
pub use Rattle.call_stages.specs.act_states.specs.declared.work.Due.{Due}
pub use Rattle.call_stages.specs.{declared.stages.ActiveCall.ActiveCall, declared.stages.Stage.TheVariants.Decided}
pub use Rattle.call_stages.specs.call_plans.proofs.RootedTargets.{rooted}
pub use Rattle.call_stages.specs.spk_nums.specs.declared.kinds.Kind.TheVariants.{Table, Pages}
pub use Rattle.call_stages.specs.kernel_rules.specs.Access.{root}
pub use Rattle.call_stages.specs.stage_look.specs.Shown.{EntryNames}
