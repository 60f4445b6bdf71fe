use Rattle.seq_lookups.specs.seq_state.specs.{◌≡◌, ◌<◌, ℕ, None, usable, state_of}
use Rattle.seal_check.proofs.held.used_at.Given as goal

abbrev pub invariant-cores : goal.invariant-cores
invariant-cores l = (d : ℕ) → d < l.number → usable (state_of l.k) d l.at ≡ None
