use Rattle.isolation_laws.proofs.StepWorlds.{steps_spare_worlds}
use Rattle.isolation_laws.proofs.steps_spare_worlds.Goals as goal

pub returns : goal.returns
returns c = steps_spare_worlds
