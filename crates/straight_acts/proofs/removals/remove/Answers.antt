use Rattle.std.proofs.Common.{arith}
use Rattle.straight_acts.proofs.Removing.{remove_under}
use Rattle.straight_acts.proofs.removals.remove.Goals as goal

pub remove_under-requires-clause-removes : goal.remove_under-requires-clause-removes
remove_under-requires-clause-removes g c =
    remove_under c.args.own.now c.args.call.now c.in-Remove.t c.in-Remove.b (cc) (omega arith) (omega arith)
