use Rattle.{plain_kernel.specs.seq_state.specs.Maps.state_of, call_judge.proofs.Reached.dead_first}
use Rattle.call_judge.proofs.deciding.may_be_dead.Goals as goal

pub returns : goal.returns
returns c =
    dead_first (state_of c.args.k.now) c.args.core c.args.call.now c.plan_of-plan.result.living c.lives-alive.result
    c.plan_of-plan.ensures.living c.lives-alive.ensures
