use Rattle.isolation_laws.proofs.StepWorlds.{steps_enter_worlds}
use Rattle.isolation_laws.proofs.steps_enter_worlds.Goals as goal

pub returns : goal.returns
returns c = steps_enter_worlds
