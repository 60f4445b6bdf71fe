use Rattle.one_core_laws.proofs.Plain.{returns_plainly}
use Rattle.one_core_laws.proofs.returns_plainly.Goals as goal

pub returns : goal.returns
returns c = returns_plainly
