use Rattle.sched_laws.proofs.Turns.{none_waits}
use Rattle.sched_laws.proofs.none_waits.Goals as goal

pub returns : goal.returns
returns c = none_waits
