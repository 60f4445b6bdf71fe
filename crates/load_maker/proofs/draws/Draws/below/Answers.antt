use Rattle.{std.proofs.Common.◌/◌, std.proofs.Common.◌%◌, std.proofs.Common.ap, std.proofs.Common.◌∙◌, load_maker.specs.Draws.below}
use Rattle.load_maker.proofs.draws.Draws.below.Goals as goal

pub returns-clause-value : goal.returns-clause-value
unfolding below
returns-clause-value c = ap (λ k. (c.behind-self.result / 8589934592) % k) c.from.ensures
    ∙ ap (λ k. (k / 8589934592) % c.args.most) c.behind-self.ensures

pub returns-clause-goes_on : goal.returns-clause-goes_on
unfolding below
returns-clause-goes_on c = c.behind-self.ensures
