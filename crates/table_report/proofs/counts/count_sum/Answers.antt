use Rattle.table_lines.specs.kernel_history.proofs.{arith, word_in, count_at}
use Rattle.{std.proofs.lemmas.Int.ints, std.proofs.lemmas.Int.to_z-of_z, table_report.proofs.Counted.sum_more}
use Rattle.table_report.proofs.counts.count_sum.Goals as goal

pub counters-preserved : goal.counters-preserved
counters-preserved c =
    let m = sum_more (count_at (word_in c.args.image.now.shape c.args.image.now.words) c.args.frame) c.counters.counter in
    record {
      sum = grind (arith, ints, to_z-of_z, m);
      least = omega (arith, ints);
      most = omega (arith, ints);
    }
