-- The bound of a call is three, the steps of its plan's look-ups, and those of its act.
use Rattle.kernel_invariant.specs.kernel_rules.proofs.{arith, Retype, Make}
use Rattle.{kernel_invariant.specs.spk_nums.specs.declared.kinds.FrameKind.TheVariants.Untyped}
use Rattle.{kernel_invariant.specs.spk_nums.specs.declared.calls.Call.TheVariants.Make as make_call, call_plans.specs.Laws.BoundIsByPlan}

pub bound_is : BoundIsByPlan
bound_is (Retype r f Untyped) n = omega arith
bound_is (Retype r f _) n = omega arith
bound_is (make_call (Make.Thread comp) r f t b) n = omega arith
bound_is (make_call (Make.Tcap sched quality) r f t b) n = omega arith
bound_is (make_call (Make.Comp table pages live) r f t b) n = omega arith
bound_is (make_call _ r f t b) n = omega arith
bound_is _ n = omega arith
