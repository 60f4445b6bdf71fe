use Rattle.std.proofs.Common.{length, sym, ◌∙◌, ap}
use Rattle.lone_kernel.proofs.Making.{made_first}
use Rattle.lone_kernel.proofs.whole.make_call.Goals as goal

pub invariant_of-made : goal.invariant_of-made
invariant_of-made g c = made_first g.B.Beginning.words c.replace.result.items g.B.Beginning.core c.args.state.now c.args.call.now
    (c.requires.words ∙ ap (λ v. v.items) (sym c.replace.ensures.value)) c.requires.core c.requires.fits c.requires.limits
    (ap (λ v. length v.items) c.replace.ensures.value ∙ c.requires.size)
