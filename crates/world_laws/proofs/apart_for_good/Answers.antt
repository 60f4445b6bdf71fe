use Rattle.world_laws.proofs.Stretches.{apart_for_good}
use Rattle.world_laws.proofs.apart_for_good.Goals as goal

pub returns : goal.returns
returns c = apart_for_good
