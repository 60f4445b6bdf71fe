use Rattle.mark_kinds.proofs.Alike.{nodes_stay}
use Rattle.mark_kinds.proofs.nodes_stay.Goals as goal

pub returns : goal.returns
returns c = nodes_stay
