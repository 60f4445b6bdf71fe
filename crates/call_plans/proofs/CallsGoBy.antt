-- The rule of each call goes by the call's plan.
use Rattle.kernel_invariant.specs.kernel_rules.specs.{◌≡◌, ℕ, Option, Some, None, refl, is_some, Make, Call}
use Rattle.kernel_invariant.specs.kernel_rules.specs.{Retype, Touch}
use Rattle.kernel_invariant.specs.kernel_rules.specs.{Translation, comp_of, make_rule}
use Rattle.kernel_invariant.specs.kernel_rules.specs.{translation_of, touch_by, rule_of}
use Rattle.call_plans.specs.{plan_of_make, plan_for, OwnPages, own_pages}
use Rattle.kernel_invariant.specs.spk_nums.specs.declared.calls.Call.TheVariants.{Make as make_call}
use Rattle.kernel_invariant.specs.spk_nums.specs.declared.kinds.FrameKind.TheVariants.{Untyped}
use Rattle.{kernel_invariant.specs.kernel_rules.specs.State.State, call_plans.specs.GoesBy.GoesBy}

touch_goes : (s : State) (c : ℕ) (pages : OwnPages) (v : ℕ) (o : Option Translation) → pages.cached v ≡ is_some o
    → GoesBy pages (plan_for (Touch v)) (touch_by pages.table v o)
touch_goes s c pages v None is = (refl, refl, is, λ k. tt)
touch_goes s c pages v (Some t) is = is

make_goes : (s : State) (pages : OwnPages) (what : Make) (r f t b : ℕ) → GoesBy pages (plan_of_make what r t b) (make_rule s what r f t b)
make_goes s pages Make.Table r f t b = search
make_goes s pages _ r f t b = search

pub calls_go : (s : State) (c : ℕ) (call : Call) → GoesBy (own_pages s c) (plan_for call) (rule_of s c call)
calls_go s c (Retype r f Untyped) = search
calls_go s c (make_call what r f t b) = make_goes s (own_pages s c) what r f t b
calls_go s c (Touch v) = touch_goes s c (own_pages s c) v (translation_of (s.core c).cached (comp_of s c).pages v) refl
calls_go s c _ = search
