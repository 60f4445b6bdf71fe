use Rattle.seq_state.specs.{length, ◌≡◌, ◌%◌, place_held, HasAll}
use Rattle.kernel_invariant.specs.kernel_rules.specs.{◌/◌, start_place}
use Rattle.seq_state.proofs.start.all_places.Given as goal

abbrev pub invariant-each : goal.invariant-each
invariant-each l = HasAll l.key l.map.items (λ k p. place_held p ≡ start_place l.setup (k / 64) (k % 64)) × (length l.map.items ≡ l.key)
