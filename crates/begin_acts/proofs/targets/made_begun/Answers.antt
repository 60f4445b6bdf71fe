use Rattle.act_counts.specs.act_states.proofs.{◌∙◌, ap, makes_at}
use Rattle.{act_counts.specs.act_states.specs.Objects.object_made, begin_acts.proofs.OtherMakes.makes_other}
use Rattle.begin_acts.proofs.targets.made_begun.Goals as goal

pub returns-in_default : goal.returns-in_default
returns-in_default c =
    let own = c.args.own.now in
    let frame = c.args.frame in
    let target = c.args.target.now in
    c.makes_at.ensures
    ∙ ap (λ o. makes_at own o c.get.result frame target) c.object_made.ensures
    ∙ ap (λ k. makes_at own (object_made c.args.what.now c.args.found.now) k frame target) c.get.ensures
    ∙ makes_other own c.args.what.now c.args.found.now frame target c.in_default.not-Comp
