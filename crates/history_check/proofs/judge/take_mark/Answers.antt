use Rattle.{std.proofs.Common.arith, history_check.proofs.Lines.beyond}
use Rattle.history_check.proofs.judge.take_mark.Goals as goal

pub returns-then-cores-number-clause-exact : goal.returns-then-cores-number-clause-exact
returns-then-cores-number-clause-exact c = λ setting lim marks come room machine order.
    beyond setting marks c.args.judge.now c.args.mark.now come
    (omega (arith, c.if-cores-number.true, c.cores.ensures.value, c.number.ensures.value, c.core_of.ensures)) machine
