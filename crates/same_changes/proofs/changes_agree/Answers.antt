use Rattle.same_changes.proofs.EveryCall.{changes_agree}
use Rattle.same_changes.proofs.changes_agree.Goals as goal

pub returns : goal.returns
returns c = changes_agree
