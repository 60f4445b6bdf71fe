use Rattle.period_laws.proofs.Sufficing.{own_budgets_suffice}
use Rattle.period_laws.proofs.own_budgets_suffice.Goals as goal

pub returns : goal.returns
returns c = own_budgets_suffice
