use Rattle.seq_state.specs.{◌≡◌, ◌≤◌, ◌*◌, sum_below, times_at, before}
use Rattle.seq_state.proofs.times.rank.Given as goal

abbrev pub invariant-each : goal.invariant-each
invariant-each l = record {
  count : l.count ≡ sum_below (λ c. before (times_at l.all c) l.time) l.core;
  most : l.count ≤ 4 * l.core;
}
