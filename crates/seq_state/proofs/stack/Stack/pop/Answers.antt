use Rattle.{std.proofs.Common.arith, seq_state.proofs.StackLemmas.removed, seq_state.proofs.StackLemmas.depth_of}
use Rattle.seq_state.proofs.stack.Stack.pop.Goals as goal

pub invariant_of-self : goal.invariant_of-self
invariant_of-self c =
    let n = depth_of c.args.self.now c.self.inside c.self.view_is c.self.invariant in
    rw c.new.ensures (removed 0 16 c.self.inside.len c.from.result c.self.inside.cells (omega arith) c.self.invariant)
