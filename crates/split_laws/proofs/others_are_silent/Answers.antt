use Rattle.split_laws.proofs.Silence.{others_are_silent}
use Rattle.split_laws.proofs.others_are_silent.Goals as goal

pub returns : goal.returns
returns c = others_are_silent
