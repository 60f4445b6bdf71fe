use Rattle.std.proofs.Common.{sym, ◌∙◌}
use Rattle.step_looks.specs.call_fits.proofs.CoreFitting.{goes_on, decides_on, changes_to}
use Rattle.call_steps.proofs.core_state.CoreState.absorb_to.Goals as goal

pub invariant_of-self : goal.invariant_of-self
invariant_of-self c = (goes_on c.self.inside.own c.self.inside.active c.in-Some.active c.absorb.new.active
    c.args.found c.self.invariant c.in-Some.is (sym c.in-Going.is ∙ c.absorb.ensures.told) c.absorb.ensures.after).0

pub returns-in-Going-clause-fits : goal.returns-in-Going-clause-fits
returns-in-Going-clause-fits c = (goes_on c.self.inside.own c.self.inside.active c.in-Some.active
    c.absorb.new.active c.args.found c.self.invariant c.in-Some.is (sym c.in-Going.is ∙ c.absorb.ensures.told) c.absorb.ensures.after).0

pub returns-in-Going-clause-fewer : goal.returns-in-Going-clause-fewer
returns-in-Going-clause-fewer c = rw (← c.self.view_is) (goes_on c.self.inside.own c.self.inside.active c.in-Some.active
    c.absorb.new.active c.args.found c.self.invariant c.in-Some.is (sym c.in-Going.is ∙ c.absorb.ensures.told) c.absorb.ensures.after).1

pub invariant_of-self-in-Decided : goal.invariant_of-self-in-Decided
invariant_of-self-in-Decided c = (decides_on c.self.inside.own c.self.inside.active c.in-Some.active c.absorb.new.active
    c.in-Decided.reply c.calls_counted.result c.args.found c.self.invariant c.in-Some.is
    (sym c.in-Decided.is ∙ c.absorb.ensures.told) c.absorb.ensures.after c.calls_counted.ensures.value).0

pub returns-in-Decided-clause-fits : goal.returns-in-Decided-clause-fits
returns-in-Decided-clause-fits c = (decides_on c.self.inside.own c.self.inside.active c.in-Some.active c.absorb.new.active
    c.in-Decided.reply c.calls_counted.result c.args.found c.self.invariant c.in-Some.is
    (sym c.in-Decided.is ∙ c.absorb.ensures.told) c.absorb.ensures.after c.calls_counted.ensures.value).0

pub returns-in-Decided-clause-fewer : goal.returns-in-Decided-clause-fewer
returns-in-Decided-clause-fewer c = rw (← c.self.view_is) (decides_on c.self.inside.own c.self.inside.active c.in-Some.active
    c.absorb.new.active c.in-Decided.reply c.calls_counted.result c.args.found c.self.invariant
    c.in-Some.is (sym c.in-Decided.is ∙ c.absorb.ensures.told) c.absorb.ensures.after c.calls_counted.ensures.value).1

pub invariant_of-self-in-Changed : goal.invariant_of-self-in-Changed
invariant_of-self-in-Changed c = (changes_to c.self.inside.own c.change.new.self c.self.inside.active c.in-Some.active
    c.absorb.new.active c.in-Changed.reply c.in-Changed.change c.calls_counted-in-Changed.result c.args.found c.self.invariant
    c.in-Some.is (sym c.in-Changed.is ∙ c.absorb.ensures.told) c.absorb.ensures.after
    c.calls_counted-in-Changed.ensures.value c.change.ensures).0

pub returns-in-Changed-clause-fits : goal.returns-in-Changed-clause-fits
returns-in-Changed-clause-fits c = (changes_to c.self.inside.own c.change.new.self c.self.inside.active c.in-Some.active
    c.absorb.new.active c.in-Changed.reply c.in-Changed.change c.calls_counted-in-Changed.result c.args.found c.self.invariant
    c.in-Some.is (sym c.in-Changed.is ∙ c.absorb.ensures.told) c.absorb.ensures.after
    c.calls_counted-in-Changed.ensures.value c.change.ensures).0

pub returns-in-Changed-clause-fewer : goal.returns-in-Changed-clause-fewer
returns-in-Changed-clause-fewer c = rw (← c.self.view_is) (changes_to c.self.inside.own c.change.new.self c.self.inside.active
    c.in-Some.active c.absorb.new.active c.in-Changed.reply c.in-Changed.change c.calls_counted-in-Changed.result c.args.found
    c.self.invariant c.in-Some.is (sym c.in-Changed.is ∙ c.absorb.ensures.told) c.absorb.ensures.after
    c.calls_counted-in-Changed.ensures.value c.change.ensures).1
