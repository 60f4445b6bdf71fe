use Rattle.seq_state.specs.{◌≡◌, ℕ, ◌<◌, length, times_at, ranked}
use Rattle.seq_state.proofs.times.all_ranked.Given as goal

abbrev pub invariant-each : goal.invariant-each
invariant-each l = record {
  done : (c : ℕ) → c < l.core → times_at l.new c ≡ ranked l.all (times_at l.all c);
  length : length l.new ≡ 8;
}
