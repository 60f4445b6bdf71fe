use Rattle.same_changes.proofs.EveryCall.{changes_same}
use Rattle.same_changes.proofs.same_changes.Goals as goal

pub returns : goal.returns
returns c = changes_same
