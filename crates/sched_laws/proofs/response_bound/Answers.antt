use Rattle.sched_laws.proofs.Bound.{response_bound}
use Rattle.sched_laws.proofs.response_bound.Goals as goal

pub returns : goal.returns
returns c = response_bound
