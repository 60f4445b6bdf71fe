use Rattle.{std.proofs.Common.arith, sched_text.proofs.Adding.sum_most}
use Rattle.sched_text.proofs.ran_by.Goals as goal

pub overflow_add-ran : goal.overflow_add-ran
overflow_add-ran c =
    let most = sum_most c.args.task c.args.turns.now c.turns.index c.index-turns-index.result c.turns.ran c.ran_in-ran.result
    c.turns-test.true c.turns.invariant.most c.index-turns-index.is c.turns.invariant.ran c.ran_in-ran.ensures in
    let small = c.requires in
    omega (arith, most, small)
