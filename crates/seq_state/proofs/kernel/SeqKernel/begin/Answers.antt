use Rattle.seq_state.specs.{◌≤◌, thing_of, state_of}
use Rattle.{std.proofs.Common.arith, seq_state.proofs.TimeLemmas.begins}
use Rattle.seq_state.proofs.kernel.SeqKernel.begin.Goals as goal

pub set_period-requires-clause-begun : goal.set_period-requires-clause-begun
set_period-requires-clause-begun c = let now = c.tick-began.ensures.now in omega arith

pub returns : goal.returns
returns c =
    let most : (state_of c.args.self.now).limits.cores ≤ 8 = c.tick-began.ensures.limits.most_cores in
    begins c.args.self.now c.tick-began.new.self c.set_period.new.self (thing_of c.args.thing)
    (record { began = c.tick-began.result; flushes = c.args.flushes }) most
    c.tick-began.ensures.same c.tick-began.ensures.later c.set_period.ensures
