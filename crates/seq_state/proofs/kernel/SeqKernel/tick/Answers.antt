use Rattle.seq_state.specs.{◌+◌, refl, state_of, maps_of, SameState}
use Rattle.std.proofs.Common.{arith, sym, subst}
use Rattle.seq_state.proofs.{Same.same_then, TimeLemmas.same_later, TimeLemmas.all_before, TimeLemmas.whole_later}
use Rattle.seq_state.proofs.kernel.SeqKernel.tick.Goals as goal

pub returns-clause-same : goal.returns-clause-same
returns-clause-same c = same_then _ _ _ (same_later (maps_of c.self.inside) (c.self.inside.clock + 1))
    (subst (λ t. SameState (state_of t) (state_of c.args.self.now)) (sym c.self.view_is) c.make_room.ensures.same)

pub returns-clause-later : goal.returns-clause-later
returns-clause-later c = all_before (maps_of c.self.inside) (c.self.inside.clock + 1) refl c.self.invariant

pub invariant_of-self : goal.invariant_of-self
invariant_of-self c = whole_later (maps_of c.self.inside) (c.self.inside.clock + 1) (omega arith) c.self.invariant
