use Rattle.seq_state.specs.{◌≡◌, ◌<◌, ◌≤◌, ◌+◌, ◌*◌, ℕ, length, number_names, sum_below, at, count_at, number_or_unused}
use Rattle.kernel_invariant.specs.kernel_rules.specs.References.{times}
use Rattle.seq_state.proofs.counts.count_numbers.Given as goal

abbrev pub invariant-each : goal.invariant-each
invariant-each l = record {
  all : length l.counts.items ≡ length l.initial.counts.items;
  counts : (f : ℕ) → f < length l.initial.counts.items → count_at l.counts.items f ≡ count_at l.initial.counts.items f
      + sum_below (λ k. times f (number_names (number_or_unused (at l.numbers.items k)))) l.key;
  most : (f : ℕ) → f < length l.initial.counts.items → count_at l.counts.items f ≤ count_at l.initial.counts.items f + 16 * l.key;
}
