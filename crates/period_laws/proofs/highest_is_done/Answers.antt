use Rattle.period_laws.proofs.Highest.{highest_is_done}
use Rattle.period_laws.proofs.highest_is_done.Goals as goal

pub returns : goal.returns
returns c = highest_is_done
