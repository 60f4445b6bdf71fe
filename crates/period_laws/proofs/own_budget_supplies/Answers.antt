use Rattle.period_laws.proofs.Supplying.{own_budget_supplies}
use Rattle.period_laws.proofs.own_budget_supplies.Goals as goal

pub returns : goal.returns
returns c = own_budget_supplies
