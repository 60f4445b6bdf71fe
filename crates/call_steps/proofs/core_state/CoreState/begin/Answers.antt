use Rattle.step_looks.specs.call_fits.proofs.Begun.{begun_fits}
use Rattle.call_steps.proofs.core_state.CoreState.begin.Goals as goal

pub invariant_of-self : goal.invariant_of-self
invariant_of-self c = begun_fits c.self.inside.own c.args.call c.none.result c.none-2.result
    c.self.invariant.own c.none.ensures c.none-2.ensures c.requires.limits

pub returns-clause-fits : goal.returns-clause-fits
returns-clause-fits c = begun_fits c.self.inside.own c.args.call c.none.result c.none-2.result
    c.self.invariant.own c.none.ensures c.none-2.ensures c.requires.limits
