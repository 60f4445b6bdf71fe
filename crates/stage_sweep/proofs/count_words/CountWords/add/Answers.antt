use Rattle.{std.proofs.Common.rules, stage_sweep.proofs.CountLemmas.filled}
use Rattle.stage_sweep.proofs.count_words.CountWords.add.Goals as goal

pub invariant_of-self : goal.invariant_of-self
invariant_of-self c = filled c.self.inside _ c.args.item c.from.ensures (search rules) c.self.invariant c.requires
