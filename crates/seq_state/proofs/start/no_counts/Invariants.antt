use Rattle.seq_state.specs.{◌≡◌, length, HasAll}
use Rattle.seq_state.proofs.start.no_counts.Given as goal

abbrev pub invariant-each : goal.invariant-each
invariant-each l = HasAll l.key l.map.items (λ k n. n ≡ 0) × (length l.map.items ≡ l.key)
