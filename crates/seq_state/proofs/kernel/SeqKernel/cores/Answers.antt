use Rattle.seq_state.specs.Maps.{state_of}
use Rattle.seq_state.proofs.kernel.SeqKernel.cores.Goals as goal

pub returns-clause-value : goal.returns-clause-value
unfolding state_of
returns-clause-value c = rw (← c.self.view_is)

pub returns-clause-limits : goal.returns-clause-limits
unfolding state_of
returns-clause-limits c = rw (← c.self.view_is) c.self.invariant.fits
