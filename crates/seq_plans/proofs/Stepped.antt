-- A call that is made by its plan: refused by a look-up or by an own cause, or carried out.
use Rattle.seq_state.proofs.{◌≡◌, ℕ, sym, ◌∙◌, ap, subst, List, Option, Some, None, Call, Value, Reply, State, does, Cause, Rule}
use Rattle.seq_state.proofs.{Name as name_rule, Does, Change, Judged, Refused, Found, unless, first_cause, outcome, rule_of, change_of}
use Rattle.seq_plans.specs.{left_of, causes_of, judged_rule, change_in, resolved}
use Rattle.seq_plans.specs.{declared.walking.Looked.Looked, Carrying.MayCarry, Resolving.Comes}
use Rattle.seq_plans.proofs.{Resolved.resolved_by_plan, MayBeCarried.may_carry, MayBeCarried.judged_alike}
use Rattle.{seq_state.proofs.state_of, seq_lookups.specs.IsCarriedOut, seq_lookups.specs.IsInRange, call_plans.specs.plan_for}
use Rattle.{call_plans.specs.OnlyDoes, call_plans.proofs.calls_go, call_plans.proofs.few_names, call_plans.specs.declared.plans.Plan.Plan}
use Rattle.{seq_state.specs.Maps.Maps, seq_lookups.proofs.Outcomes.refused}

-- ---- what is left of a rule

left_refused : (s : State) (c : ℕ) (rule : Rule) (r : Reply) → OnlyDoes rule → Some r ≡ first_cause s c (causes_of rule)
    → outcome s c rule ≡ Refused r
left_refused s c (Does causes value edits) r done e = ap (λ (o : Option Reply). unless o (does c s value edits)) (sym e)
left_refused s c (name_rule n want rest) r done e = absurd done
left_refused s c _ r done e = absurd done

left_carried : (s : State) (c : ℕ) (rule : Rule) → OnlyDoes rule → None ≡ first_cause s c (causes_of rule)
    → outcome s c rule ≡ change_in s c rule
left_carried s c (Does causes value edits) done e = ap (λ (o : Option Reply). unless o (does c s value edits)) (sym e)
left_carried s c (name_rule n want rest) done e = absurd done
left_carried s c _ done e = absurd done

-- What comes of a call, of what was found by its plan.
comes : (s : State) (c : ℕ) (call : Call) (plan : Plan) (j : Judged Looked) → plan ≡ plan_for call → j ≡ resolved s c plan
    → Comes s c (rule_of s c call) j
comes s c call plan j is e =
    subst (λ (i : Judged Looked). Comes s c (rule_of s c call) i) (sym (e ∙ ap (resolved s c) is))
    (resolved_by_plan s c (plan_for call) (rule_of s c call) (few_names call) (calls_go s c call))

-- ---- a step

-- A look-up is refused.
pub look_refused : (k : Maps) (c : ℕ) (call : Call) (plan : Plan) (r : Reply) → plan ≡ plan_for call
    → Refused r ≡ resolved (state_of k) c plan → IsCarriedOut (state_of k) (change_of (state_of k) c call) r k
look_refused k c call plan r is e =
    refused k (change_of (state_of k) c call) r (comes (state_of k) c call plan (Refused r) is e)

-- An own cause stands.
pub cause_refused : (k : Maps) (c : ℕ) (call : Call) (plan : Plan) (l : Looked) (causes : List Cause) (r : Reply) → plan ≡ plan_for call
    → Found l ≡ resolved (state_of k) c plan → causes ≡ causes_of (left_of (judged_rule (state_of k) c call) l)
    → Some r ≡ first_cause (state_of k) c causes → IsInRange (state_of k) c call
    → IsCarriedOut (state_of k) (change_of (state_of k) c call) r k
cause_refused k c call plan l causes r is e are stands ranges =
    let s = state_of k in
    let h : Comes s c (rule_of s c call) (Found l) = comes s c call plan (Found l) is e in
    let own : Some r ≡ first_cause s c (causes_of (left_of (rule_of s c call) l)) =
    stands ∙ ap (first_cause s c) are ∙ judged_alike s c call l ranges (e ∙ ap (resolved s c) is) in
    refused k (change_of s c call) r (h.0 ∙ left_refused s c (left_of (rule_of s c call) l) r h.1 own)

-- No cause stands, and the call is carried out.
pub carried_out : (s : State) (k : Maps) (c : ℕ) (call : Call) (plan : Plan) (l : Looked) (causes : List Cause) (v : Value)
    → plan ≡ plan_for call
    → Found l ≡ resolved s c plan → causes ≡ causes_of (left_of (judged_rule s c call) l)
    → None ≡ first_cause s c causes
    → (MayCarry s c call l → IsCarriedOut s (change_in s c (left_of (rule_of s c call) l)) (Reply.Ok v) k) → IsInRange s c call
    → IsCarriedOut s (change_of s c call) (Reply.Ok v) k
carried_out s k c call plan l causes v is e are calm carries ranges =
    let found : Found l ≡ resolved s c (plan_for call) = e ∙ ap (resolved s c) is in
    let h : Comes s c (rule_of s c call) (Found l) = comes s c call plan (Found l) is e in
    let own : None ≡ first_cause s c (causes_of (left_of (rule_of s c call) l)) =
    calm ∙ ap (first_cause s c) are ∙ judged_alike s c call l ranges found in
    let o : change_of s c call ≡ change_in s c (left_of (rule_of s c call) l) =
    h.0 ∙ left_carried s c (left_of (rule_of s c call) l) h.1 own in
    subst (λ (j : Judged Change). IsCarriedOut s j (Reply.Ok v) k) (sym o) (carries (may_carry s c call l ranges found own))
