use Rattle.sched_start.proofs.Taken.{takes_no_tick}
use Rattle.sched_start.proofs.takes_no_tick.Goals as goal

pub returns : goal.returns
returns c = takes_no_tick
