use Rattle.seq_state.specs.{length, ◌≡◌, core_of, HasAll}
use Rattle.kernel_invariant.specs.kernel_rules.specs.Start.{start_core}
use Rattle.seq_state.proofs.start.all_cores.Given as goal

abbrev pub invariant-each : goal.invariant-each
invariant-each l = HasAll l.key l.map.items (λ k x. core_of x ≡ start_core l.setup k) × (length l.map.items ≡ l.key)
