use Rattle.spk_nums.proofs.CoreSets.{clear_bit}
use Rattle.spk_nums.proofs.core_set.CoreSet.without.Goals as goal

pub returns : goal.returns
returns c other small = rw c.number.ensures.value (clear_bit c.args.self.0 c.args.core other c.number.ensures.range small)
