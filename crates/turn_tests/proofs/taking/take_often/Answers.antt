use Rattle.std.proofs.Common.{ap, ◌∙◌, arith}
use Rattle.{turn_rule.proofs.Traces.extends_on, turn_tests.proofs.Tickets.takes_goes_on}
use Rattle.turn_tests.proofs.taking.take_often.Goals as goal

pub loop-preserved : goal.loop-preserved
loop-preserved c =
    let before = c.loop.invariant in
    let taken = before.taken in
    let made = takes_goes_on c.loop.seat c.take.new.seat c.args.count c.take.result c.take.ensures.takes in
    let now = ap (λ p. p.taken) c.take.ensures.takes.program in
    record {
      goes_on = record {
        begins = extends_on _ _ _ before.goes_on.begins made.begins;
        core = made.core ∙ before.goes_on.core;
        table = made.table ∙ before.goes_on.table;
      };
      idle = c.take.ensures.idle;
      taken = omega arith;
      follows = λ h. c.take.ensures.follows;
    }
