use Rattle.straight_own.proofs.Timing.{charge_answers}
use Rattle.straight_own.proofs.times.charge_head.Goals as goal

-- src/times.rt:80:24
pub exit-requires-clause-decided : goal.exit-requires-clause-decided
exit-requires-clause-decided g c =
    charge_answers c.args.own.now c.spend.new.own c.args.call.now c.make-found.result 2 c.args.due c.charged_in.result c.args.charge
    c.in-Done.value _ _ c.make-found.ensures.goes c.requires.stands c.in-Done.ensures.end c.requires.due c.charged_in.ensures
    c.spend.ensures
