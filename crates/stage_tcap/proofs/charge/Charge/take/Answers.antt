use Rattle.{stage_tcap.specs.◌≡◌, stage_tcap.specs.charge_after, stage_tcap.proofs.PairLemmas.charge_after_fits}
use Rattle.stage_tcap.proofs.charge.Charge.take.Goals as goal

pub returns-clause-fits : goal.returns-clause-fits
returns-clause-fits c =
    let after : c.took-took.result.0 ≡ charge_after c.args.self.now c.args.found = c.took-took.ensures.after in
    rw after (charge_after_fits c.args.layout.now c.args.self.now c.args.found c.requires)
