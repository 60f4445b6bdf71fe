use Rattle.seq_state.specs.{◌≡◌, ◌<◌, ◌≤◌, ◌+◌, ◌*◌, ℕ, length, core_names, sum_below, at, count_at, core_or_none}
use Rattle.kernel_invariant.specs.kernel_rules.specs.References.{times}
use Rattle.seq_state.proofs.counts.count_cores.Given as goal

abbrev pub invariant-each : goal.invariant-each
invariant-each l = record {
  all : length l.counts.items ≡ length l.initial.counts.items;
  counts : (f : ℕ) → f < length l.initial.counts.items → count_at l.counts.items f ≡ count_at l.initial.counts.items f
      + sum_below (λ k. times f (core_names (core_or_none (at l.cores.items k)))) l.key;
  most : (f : ℕ) → f < length l.initial.counts.items → count_at l.counts.items f ≤ count_at l.initial.counts.items f + 16 * l.key;
}
