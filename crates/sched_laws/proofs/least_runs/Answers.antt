use Rattle.sched_laws.proofs.Turns.{least_runs}
use Rattle.sched_laws.proofs.least_runs.Goals as goal

pub returns : goal.returns
returns c = least_runs
