-- The rule of a call as it is judged goes by the call's plan.
use Rattle.plain_kernel.specs.kernel_laws.proofs.{◌≡◌, ℕ, ◌≤◌, Bool, true, false, ltb as nat_lt, if◌then◌else◌, refl, subst, List, Call}
use Rattle.plain_kernel.specs.kernel_laws.proofs.{Retype, Reply, State, RuleMay, OneMay, Cause, retype_rule, FrameKind}
use Rattle.plain_kernel.specs.seq_plans.specs.{left_of, causes_of, retype_beyond, judged_rule, Decides, Iff}
use Rattle.plain_kernel.specs.seq_plans.specs.{declared.reaching.Reach.TheVariants.Own, declared.walking.Looked.Looked, Walks.looked}
use Rattle.plain_kernel.specs.seq_plans.specs.{Refusals.LooksMay}
use Rattle.{plain_kernel.specs.call_plans.specs.plan_for, plain_kernel.specs.call_plans.specs.own_pages}
use Rattle.{plain_kernel.specs.call_plans.proofs.calls_go, plain_kernel.specs.call_plans.proofs.few_names}
use Rattle.{plain_kernel.specs.call_plans.specs.declared.plans.Plan.Plan, plain_kernel.specs.call_plans.specs.GoesBy.GoesBy}
use Rattle.{plain_kernel.specs.seq_plans.proofs.Deciding.decides_either}
use Rattle.{plain_kernel.specs.seq_plans.proofs.ByPlan.refused_by_plan}

untyped_goes : (s : State) (c r f : ℕ) (b : Bool)
    → GoesBy (own_pages s c) (plan_for (Retype r f FrameKind.Untyped))
    (if b then retype_rule s r f FrameKind.Untyped else retype_beyond r f)
untyped_goes s c r f true = calls_go s c (Retype r f FrameKind.Untyped)
untyped_goes s c r f false = (refl, refl, λ k. tt)

judged_goes : (s : State) (c : ℕ) (call : Call) → GoesBy (own_pages s c) (plan_for call) (judged_rule s c call)
judged_goes s c (Retype r f FrameKind.Untyped) = untyped_goes s c r f (nat_lt f s.limits.frames)
judged_goes s c call = calls_go s c call

decides_iff : (A B : Type 0) (b : Bool) → Iff A B → Decides b B → Decides b A
decides_iff A B true e h = e.back h
decides_iff A B false e h = λ a. h (e.there a)

-- A call may be refused exactly where its look-ups or its own causes may be.
pub judged : (s : State) (c : ℕ) (call : Call) (r : Reply) (plan : Plan) (l : Looked) (causes : List Cause) (a b : Bool)
    → plan ≡ plan_for call → l ≡ looked Own s c plan → causes ≡ causes_of (left_of (judged_rule s c call) l)
    → Decides a (LooksMay s c plan l r) → Decides b (OneMay s c causes r)
    → Decides ((Rattle.std.specs.Prelude.◌||◌) a b) (RuleMay s c (judged_rule s c call) r)
judged s c call r plan l causes a b is_plan is_looked are by_looks by_own =
    decides_iff _ _ _ (refused_by_plan s c (plan_for call) (judged_rule s c call) r (few_names call) (judged_goes s c call))
    (decides_either _ _ a b
    (subst (λ p. Decides a (LooksMay s c p (looked Own s c p) r)) is_plan
    (subst (λ x. Decides a (LooksMay s c plan x r)) is_looked by_looks))
    (subst (λ p. Decides b (OneMay s c (causes_of (left_of (judged_rule s c call) (looked Own s c p))) r)) is_plan
    (subst (λ x. Decides b (OneMay s c (causes_of (left_of (judged_rule s c call) x)) r)) is_looked
    (subst (λ xs. Decides b (OneMay s c xs r)) are by_own))))
