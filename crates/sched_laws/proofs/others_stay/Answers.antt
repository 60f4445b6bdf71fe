use Rattle.sched_laws.proofs.Preempting.{others_stay}
use Rattle.sched_laws.proofs.others_stay.Goals as goal

pub returns : goal.returns
returns c = others_stay
