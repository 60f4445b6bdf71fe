use Rattle.{seq_state.specs.◌≡◌, seq_state.specs.ℕ, seq_state.specs.◌<◌, seq_state.specs.grace_from}
use Rattle.{kernel_invariant.specs.spk_nums.specs.CoreSets.has_core}
use Rattle.seq_state.proofs.kernel.SeqKernel.waits.Given as goal

abbrev pub invariant-each : goal.invariant-each
invariant-each l = (core : ℕ) → core < l.number → has_core l.set core ≡ (grace_from l.self l.period).waits core
