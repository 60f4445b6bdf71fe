use Rattle.preempt_test.proofs.NoPower.{gives_no_power}
use Rattle.preempt_test.proofs.merging_gives_no_power.Goals as goal

pub returns : goal.returns
returns c = gives_no_power
