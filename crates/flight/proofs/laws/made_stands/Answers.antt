use Rattle.flight.proofs.Made.{made_stands}
use Rattle.flight.proofs.laws.made_stands.Goals as goal

-- src/laws.rt:12:1
pub returns : goal.returns
returns c = made_stands
