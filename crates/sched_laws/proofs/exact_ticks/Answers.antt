use Rattle.sched_laws.proofs.Exactly.{exact_ticks}
use Rattle.sched_laws.proofs.exact_ticks.Goals as goal

pub returns : goal.returns
returns c = exact_ticks
