use Rattle.seq_state.specs.{◌≡◌, ◌<◌, ◌≤◌, ℕ, at, Times.ranked_period, Passing.Becomes}
use Rattle.seq_state.proofs.times.rank_below.Given as goal

abbrev pub invariant-each : goal.invariant-each
invariant-each l = record {
  done : (k : ℕ) → k < l.key → Becomes (ranked_period l.all) (at l.initial.map.items k) (at l.map.items k);
  left : (k : ℕ) → l.key ≤ k → at l.map.items k ≡ at l.initial.map.items k;
}
