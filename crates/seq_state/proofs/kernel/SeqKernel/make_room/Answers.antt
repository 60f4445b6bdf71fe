use Rattle.seq_state.specs.Maps.{state_of}
use Rattle.seq_state.proofs.kernel.SeqKernel.make_room.Goals as goal

pub returns-then-self-clause-limits : goal.returns-then-self-clause-limits
unfolding state_of
returns-then-self-clause-limits c = rw (← c.self.view_is) c.self.invariant.fits

pub returns-else-self-clause-limits : goal.returns-else-self-clause-limits
unfolding state_of
returns-else-self-clause-limits c = rw (← c.self.view_is) c.self.invariant.fits
