use Rattle.spk_nums.proofs.Cells.{filled}
use Rattle.spk_nums.proofs.qualities.Qualities.add.Goals as goal

pub invariant_of-self : goal.invariant_of-self
invariant_of-self c = filled c.self.inside _ _ c.from.ensures c.self.invariant (rw c.self.view_is (cc))
