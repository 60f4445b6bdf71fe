use Rattle.sched_laws.proofs.Working.{work_is_kept}
use Rattle.sched_laws.proofs.work_is_kept.Goals as goal

pub returns : goal.returns
returns c = work_is_kept
