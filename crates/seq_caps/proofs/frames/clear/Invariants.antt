use Rattle.{seq_lookups.specs.seq_state.specs.state_of, seq_lookups.specs.seq_state.specs.Represents, seq_caps.proofs.Clearing.cleared_to}
use Rattle.seq_caps.proofs.frames.clear.Given as goal

abbrev pub invariant-each : goal.invariant-each
invariant-each l = Represents l.k (cleared_to (state_of l.fn.k) l.frame l.number)
