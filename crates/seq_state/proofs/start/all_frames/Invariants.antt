use Rattle.seq_state.specs.{length, ◌≡◌, frame_of, HasAll}
use Rattle.kernel_invariant.specs.kernel_rules.specs.Start.{start_frame}
use Rattle.seq_state.proofs.start.all_frames.Given as goal

abbrev pub invariant-each : goal.invariant-each
invariant-each l = HasAll l.key l.map.items (λ k x. frame_of x ≡ start_frame l.setup k) × (length l.map.items ≡ l.key)
