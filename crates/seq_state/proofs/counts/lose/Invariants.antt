use Rattle.seq_state.specs.{◌≡◌, ◌<◌, ◌+◌, ℕ, length, count_at}
use Rattle.kernel_invariant.specs.kernel_rules.specs.References.{times}
use Rattle.seq_state.proofs.counts.lose.Given as goal

abbrev pub invariant-each : goal.invariant-each
invariant-each l = record {
  all : length l.counts.items ≡ length l.initial.counts.items;
  counts : (f : ℕ) → f < length l.initial.counts.items
      → count_at l.counts.items f + times f l.fn.names ≡ count_at l.initial.counts.items f + times f l.rest;
}

abbrev pub decreases-each : goal.decreases-each
decreases-each l = length l.rest
