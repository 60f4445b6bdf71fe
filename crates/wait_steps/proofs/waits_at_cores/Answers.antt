use Rattle.wait_steps.proofs.Steps.{took_at_core}
use Rattle.wait_steps.proofs.waits_at_cores.Goals as goal

pub returns : goal.returns
returns c = took_at_core
