use Rattle.state_laws.proofs.Looking.{found_stays}
use Rattle.state_laws.proofs.found_stays.Goals as goal

pub returns : goal.returns
returns c = found_stays
