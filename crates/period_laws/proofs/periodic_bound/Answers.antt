use Rattle.period_laws.proofs.Periodic.{periodic_bound}
use Rattle.period_laws.proofs.periodic_bound.Goals as goal

pub returns : goal.returns
returns c = periodic_bound
