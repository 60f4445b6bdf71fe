use Rattle.std.proofs.Common.{rules}
use Rattle.spk_nums.proofs.Cells.{added}
use Rattle.spk_nums.proofs.translations.Translations.add.Goals as goal

pub invariant_of-self : goal.invariant_of-self
invariant_of-self c = added _ _ _ _ _ _ c.from.ensures (search rules) c.self.invariant
