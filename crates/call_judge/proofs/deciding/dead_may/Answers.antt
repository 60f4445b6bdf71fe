use Rattle.plain_kernel.specs.seq_plans.proofs.Deciding.{decides_either}
use Rattle.call_judge.proofs.deciding.dead_may.Goals as goal

pub returns : goal.returns
returns c = decides_either _ _ c.may_be_dead-first.result c.rule_may-by_rule.result c.may_be_dead-first.ensures c.rule_may-by_rule.ensures
