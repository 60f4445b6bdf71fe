use Rattle.same_changes.proofs.EveryCall.{stays_in_range}
use Rattle.same_changes.proofs.stays_in_range.Goals as goal

pub returns : goal.returns
returns c = stays_in_range
