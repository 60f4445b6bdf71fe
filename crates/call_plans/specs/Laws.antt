-- What is proved of plans.
use Rattle.std.specs.Prelude.{◌≡◌, ◌+◌, ◌∷◌, ◌++◌}
use Rattle.kernel_invariant.specs.kernel_rules.specs.{ℕ, List, [], Capability, Call, Reply, Rule, outcome, RuleMay}
use Rattle.kernel_invariant.specs.kernel_rules.specs.{asks_life, rule_of, bound_of}
use Rattle.kernel_invariant.specs.kernel_rules.specs.State.{State}
use Rattle.call_plans.specs.{declared.plans.Plan.Plan, Bounds.living_steps, Bounds.look_steps, Bounds.act_steps, PlanOf.plan_for}
use Rattle.call_plans.specs.{GoesBy.OwnPages, GoesBy.own_pages, GoesBy.GoesBy, GoesBy.GoesOn, After.rule_after, After.with_found}
use Rattle.call_plans.specs.{After.names_after, After.Leads, After.LeadsIn, After.Next, After.NextName, After.next_of, After.NextMay}

-- The rule of a call goes by the call's plan, in each state and for each core.
abbrev pub GoesByPlan : Type 0
GoesByPlan = (s : State) (c : ℕ) (call : Call) → GoesBy (own_pages s c) (plan_for call) (rule_of s c call)

-- P holds of each rule that goes by a plan, for a core whose first names have led to these capabilities.
abbrev pub AfterNames : (State → ℕ → OwnPages → Plan → Rule → List Capability → Type 0) → Type 0
AfterNames P =
    (s : State) (c : ℕ) (pages : OwnPages) (plan : Plan) (rule : Rule) (ks : List Capability)
    → GoesBy pages plan rule
    → Leads (LeadsIn s c) plan.names [] ks
    → P s c pages plan rule ks

-- What is left of the rule goes by what is left of the plan.
abbrev pub LeftGoesBy : Type 0
LeftGoesBy = AfterNames λ s c pages plan rule ks.
    GoesOn pages (names_after plan.names ks) plan.target (with_found [] ks) (rule_after rule ks)

-- What comes out of the rule comes out of what is left of it.
abbrev pub OutcomeIsLeft : Type 0
OutcomeIsLeft = AfterNames λ s c pages plan rule ks. outcome s c rule ≡ outcome s c (rule_after rule ks)

-- A refusal of what is left of the rule, and of the next look-up, may be the rule's.
abbrev pub LeftMayRefuse : Type 0
LeftMayRefuse = AfterNames λ s c pages plan rule ks. (r : Reply) → RuleMay s c (rule_after rule ks) r → RuleMay s c rule r

abbrev pub NextMayRefuse : Type 0
NextMayRefuse = AfterNames λ s c pages plan rule ks. (r : Reply) → NextMay s c pages (next_of plan ks) r → RuleMay s c rule r

-- The next look-up is that of a name, which leads to a capability.
abbrev pub NextLeads : State → ℕ → Next → Capability → Type 0
NextLeads s c (NextName n wanted) k = LeadsIn s c n wanted k
NextLeads s c _ k = ⊥

-- One name more has led to a capability.
abbrev pub LeadsMore : Type 0
LeadsMore =
    (s : State) (c : ℕ) (plan : Plan) (ks : List Capability) (k : Capability)
    → Leads (LeadsIn s c) plan.names [] ks
    → NextLeads s c (next_of plan ks) k
    → Leads (LeadsIn s c) plan.names [] (ks ++ k ∷ [])

-- The plan of a call asks that the component lives where the call asks for life.
abbrev pub LivesByPlan : Type 0
LivesByPlan = (call : Call) → (plan_for call).living ≡ asks_life call

-- The bound of each call is three steps for entry and exit, those by which its plan asks for life, those of its look-ups, and those of
-- its act.
abbrev pub BoundIsByPlan : Type 0
BoundIsByPlan = (call : Call) (n : ℕ)
    → bound_of call n
    ≡ 3 + living_steps (plan_for call).living + look_steps (plan_for call).names (plan_for call).target + act_steps call n
