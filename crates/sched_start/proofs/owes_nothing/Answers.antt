use Rattle.sched_start.proofs.Owed.{owes_nothing}
use Rattle.sched_start.proofs.owes_nothing.Goals as goal

pub returns : goal.returns
returns c = owes_nothing
