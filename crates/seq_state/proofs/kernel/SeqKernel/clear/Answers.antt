use Rattle.seq_state.specs.{◌≡◌, thing_of, state_of, grace_from, with_grace_of, SameState}
use Rattle.std.proofs.Common.{ap, subst, arith}
use Rattle.{seq_state.specs.declared.times.Period.Period, seq_state.proofs.TimeLemmas.clears}
use Rattle.seq_state.proofs.kernel.SeqKernel.clear.Goals as goal

pub set_period-requires-clause-begun : goal.set_period-requires-clause-begun
set_period-requires-clause-begun c = let none : c.none.result.began ≡ 0 = ap (λ (p : Period). p.began) c.none.ensures in omega arith

pub returns : goal.returns
returns c = clears c.args.self.now c.set_period.new.self (thing_of c.args.thing)
    (subst (λ p. SameState (state_of c.set_period.new.self)
    (with_grace_of (state_of c.args.self.now) (thing_of c.args.thing) (grace_from c.args.self.now p))) c.none.ensures c.set_period.ensures)
