use Rattle.table_lines.specs.kernel_history.specs.{◌≡◌, ◌*◌, ◌^◌, pos, word_in, count_at, count_sum}
use Rattle.{std.proofs.Common.neg_ℤ, std.proofs.Common.◌≤ℤ◌, std.specs.List.range_with_len}
use Rattle.table_report.proofs.counts.count_sum.Given as goal

abbrev pub invariant-counters : goal.invariant-counters
invariant-counters l = record {
  sum : l.sum ≡ count_sum (count_at (word_in l.image.shape l.image.words) l.frame) (range_with_len 0 l.counter);
  least : neg_ℤ (pos (2 ^ 31 * l.counter)) ≤ℤ l.sum;
  most : l.sum ≤ℤ pos (2 ^ 31 * l.counter);
}
