use Rattle.seq_state.specs.{refl, times_at, before}
use Rattle.{std.proofs.Common.arith, seq_state.proofs.Counting.sum_none, seq_state.proofs.Counting.counted}
use Rattle.seq_state.proofs.times.rank.Goals as goal

pub each-init : goal.each-init
each-init c = record { count = sum_none _; most = omega arith }

pub each-preserved : goal.each-preserved
each-preserved c = record {
  count = counted (λ d. before (times_at c.args.all.now d) c.args.time) c.each.core c.each.core c.each.count
      c.before-count.result c.each.invariant.count refl c.before-count.ensures.count;
  most = omega arith;
}
