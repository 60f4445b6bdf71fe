use Rattle.flight.proofs.Final.{represents_counts}
use Rattle.flight.proofs.laws.represents_counts.Goals as goal

pub returns : goal.returns
returns c = represents_counts
