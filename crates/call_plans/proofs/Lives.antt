-- The plan of a call asks that its component lives where the call asks for life.
use Rattle.kernel_invariant.specs.kernel_rules.specs.{refl, Retype, Make}
use Rattle.kernel_invariant.specs.spk_nums.specs.declared.kinds.FrameKind.TheVariants.{Untyped, User, Kernel}
use Rattle.{kernel_invariant.specs.spk_nums.specs.declared.calls.Call.TheVariants.Make as make_call, call_plans.specs.Laws.LivesByPlan}

pub lives : LivesByPlan
lives (Retype r f Untyped) = refl
lives (Retype r f User) = refl
lives (Retype r f Kernel) = refl
lives (make_call Make.Table r f t b) = refl
lives (make_call Make.Leaf r f t b) = refl
lives (make_call Make.Pages r f t b) = refl
lives (make_call Make.Pleaf r f t b) = refl
lives (make_call (Make.Thread comp) r f t b) = refl
lives (make_call (Make.Tcap sched quality) r f t b) = refl
lives (make_call (Make.Comp table pages live) r f t b) = refl
lives call = refl
