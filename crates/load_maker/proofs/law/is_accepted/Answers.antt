use Rattle.load_maker.proofs.Within.{accepted}
use Rattle.load_maker.proofs.law.is_accepted.Goals as goal

pub returns : goal.returns
returns c = accepted
