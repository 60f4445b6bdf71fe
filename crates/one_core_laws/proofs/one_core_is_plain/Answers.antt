use Rattle.one_core_laws.proofs.Plain.{one_core_is_plain}
use Rattle.one_core_laws.proofs.one_core_is_plain.Goals as goal

pub returns : goal.returns
returns c = one_core_is_plain
