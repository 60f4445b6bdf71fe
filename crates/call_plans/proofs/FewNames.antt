-- A call has four names at most.
use Rattle.kernel_invariant.specs.kernel_rules.proofs.{ℕ, ◌≤◌, length, arith, FrameKind, Make, Call, Retype}
use Rattle.call_plans.specs.{plan_of_retype, plan_of_make, plan_for}
use Rattle.kernel_invariant.specs.spk_nums.specs.declared.kinds.FrameKind.TheVariants.{Untyped, User, Kernel}
use Rattle.kernel_invariant.specs.spk_nums.specs.declared.calls.Call.TheVariants.{Make as make_call}

few_of_retype : (k : FrameKind) (r : ℕ) → length (plan_of_retype k r).names ≤ 4
few_of_retype Untyped r = omega arith
few_of_retype User r = omega arith
few_of_retype Kernel r = omega arith

few_of_make : (what : Make) (r t b : ℕ) → length (plan_of_make what r t b).names ≤ 4
few_of_make Make.Table r t b = omega arith
few_of_make Make.Leaf r t b = omega arith
few_of_make Make.Pages r t b = omega arith
few_of_make Make.Pleaf r t b = omega arith
few_of_make (Make.Thread comp) r t b = omega arith
few_of_make (Make.Tcap sched quality) r t b = omega arith
few_of_make (Make.Comp table pages live) r t b = omega arith

pub few_names : (call : Call) → length (plan_for call).names ≤ 4
few_names (Retype r f k) = few_of_retype k r
few_names (make_call what r f t b) = few_of_make what r t b
few_names call = omega arith
