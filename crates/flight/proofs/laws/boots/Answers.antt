use Rattle.flight.proofs.Boot.{boots}
use Rattle.flight.proofs.laws.boots.Goals as goal

-- src/laws.rt:6:1
pub returns : goal.returns
returns c = boots
