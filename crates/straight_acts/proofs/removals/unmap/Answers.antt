use Rattle.std.proofs.Common.{arith}
use Rattle.straight_acts.proofs.Removing.{unmap_under}
use Rattle.straight_acts.proofs.removals.unmap.Goals as goal

pub remove_under-requires-clause-removes : goal.remove_under-requires-clause-removes
remove_under-requires-clause-removes g c =
    unmap_under c.args.own.now c.args.call.now c.in-Unmap.p c.in-Unmap.v _ (cc) (cc) (omega arith) (omega arith)
