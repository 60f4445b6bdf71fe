use Rattle.seq_state.specs.{length, ◌≡◌, number_of, HasAll}
use Rattle.kernel_invariant.specs.kernel_rules.specs.Start.{start_number}
use Rattle.seq_state.proofs.start.all_numbers.Given as goal

abbrev pub invariant-each : goal.invariant-each
invariant-each l = HasAll l.key l.map.items (λ k x. number_of x ≡ start_number k) × (length l.map.items ≡ l.key)
