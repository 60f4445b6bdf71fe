use Rattle.seq_state.specs.{◌≡◌, length, no_period, HasAll}
use Rattle.seq_state.proofs.start.all_graces.Given as goal

abbrev pub invariant-each : goal.invariant-each
invariant-each l = HasAll l.key l.map.items (λ k p. p ≡ no_period) × (l.none ≡ no_period) × (length l.map.items ≡ l.key)
