use Rattle.{std.proofs.Common.arith, kernel_invariant.specs.spk_nums.proofs.Cells.added, seq_state.proofs.StackLemmas.depth_of}
use Rattle.seq_state.proofs.stack.Stack.push.Goals as goal

pub invariant_of-self : goal.invariant_of-self
invariant_of-self c =
    let n = depth_of c.args.self.now c.self.inside c.self.view_is c.self.invariant in
    added 0 16 c.self.inside.len c.from.result c.self.inside.cells c.args.frame c.from.ensures (omega arith) c.self.invariant
