use Rattle.sched_laws.proofs.Picks.{least_chosen}
use Rattle.sched_laws.proofs.least_chosen.Goals as goal

pub returns : goal.returns
returns c = least_chosen
