use Rattle.flight.proofs.Advance.{steps_on}
use Rattle.flight.proofs.laws.steps_on.Goals as goal

-- src/laws.rt:12:1
pub returns : goal.returns
returns c = steps_on
