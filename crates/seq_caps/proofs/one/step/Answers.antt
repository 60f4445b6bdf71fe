use Rattle.seq_plans.proofs.{look_refused, cause_refused, carried_out}
use Rattle.{seq_lookups.specs.seq_state.specs.Maps.state_of, seq_plans.specs.OwnCauses.causes_in}
use Rattle.seq_caps.proofs.one.step.Goals as goal

pub returns-in-Err-clause-exact : goal.returns-in-Err-clause-exact
returns-in-Err-clause-exact c = λ ranges.
    look_refused c.args.k.now c.args.core c.args.call.now c.plan_of-plan.result c.in-Err.refusal c.plan_of-plan.ensures.plan
    c.in-Err.ensures

pub returns-in-Some-clause-exact : goal.returns-in-Some-clause-exact
returns-in-Some-clause-exact c =
    cause_refused c.args.k.now c.args.core c.args.call.now c.plan_of-plan.result c.in-Ok.looked (causes_in c.causes-own.result)
    c.in-Some.refusal c.plan_of-plan.ensures.plan c.in-Ok.ensures c.causes-own.ensures.exact c.in-Some.ensures

pub returns-in-None-clause-exact : goal.returns-in-None-clause-exact
returns-in-None-clause-exact c =
    carried_out (state_of c.args.k.now) c.carry_out.new.k c.args.core c.args.call.now c.plan_of-plan.result c.in-Ok.looked
    (causes_in c.causes-own.result) c.carry_out.result c.plan_of-plan.ensures.plan c.in-Ok.ensures c.causes-own.ensures.exact
    c.in-None.ensures c.carry_out.ensures
