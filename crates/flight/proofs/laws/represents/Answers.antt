use Rattle.flight.proofs.Final.{represents}
use Rattle.flight.proofs.laws.represents.Goals as goal

-- src/laws.rt:24:1
pub returns : goal.returns
returns c = represents
