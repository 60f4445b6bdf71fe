use Rattle.kernel_history.specs.{◌≡◌, ℕ, ◌<◌, length, get_or, take, times}
use Rattle.table_lines.proofs.counting.tally.Given as goal

abbrev pub invariant-names : goal.invariant-names
invariant-names l = record {
  size : length l.counts.items ≡ l.frames;
  counted : (f : ℕ) → f < l.frames → get_or l.counts.items f 0 ≡ times f (take l.at l.names);
}
