use Rattle.period_laws.proofs.Returning.{own_budget_returns}
use Rattle.period_laws.proofs.own_budget_returns.Goals as goal

pub returns : goal.returns
returns c = own_budget_returns
