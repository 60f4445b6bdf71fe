use Rattle.kernel_history.proofs.Laws.{events_determine}
use Rattle.kernel_history.proofs.events_determine.Goals as goal

-- src/lib.rt:19:1
pub returns : goal.returns
returns c = events_determine
