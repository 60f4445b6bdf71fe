use Rattle.{plain_kernel.specs.seq_state.specs.Maps.state_of, plain_kernel.specs.seq_plans.specs.OwnCauses.causes_in}
use Rattle.{call_judge.proofs.JudgedRules.judged}
use Rattle.call_judge.proofs.deciding.rule_may.Goals as goal

pub returns : goal.returns
returns c =
    judged (state_of c.args.k.now) c.args.core c.args.call.now c.args.refusal.now c.plan_of-plan.result c.look_up-looked.result
    (causes_in c.causes-own.result) c.looks_may-at_looks.result c.one_may-by_own.result c.plan_of-plan.ensures.plan
    c.look_up-looked.ensures c.causes-own.ensures.exact c.looks_may-at_looks.ensures c.one_may-by_own.ensures
