use Rattle.kernel_invariant.specs.kernel_rules.proofs.{refl, ◌∙◌, ap, arith, core_names, times}
use Rattle.seq_state.specs.{at, count_at, core_or_none}
use Rattle.seq_state.proofs.Counting.{none_more, counted_more}
use Rattle.seq_state.proofs.counts.count_cores.Goals as goal

pub each-init : goal.each-init
each-init c = record { all = refl; counts = λ f _. none_more _ _; most = λ f _. omega arith }

pub each-preserved : goal.each-preserved
each-preserved c =
    let all = c.each.invariant.all in
    record {
      all = c.gain.ensures.all ∙ all;
      counts = λ f below. counted_more (λ k. times f (core_names (core_or_none (at c.args.cores.now.items k)))) c.each.key
          (count_at c.args.counts.now.items f) (count_at c.each.counts.items f) (count_at c.gain.new.counts.items f)
          (times f c.names_at_core.result) (c.each.invariant.counts f below) (c.gain.ensures.counts f (omega arith))
          (ap (times f) c.names_at_core.ensures);
      most = λ f below. let before = c.each.invariant.most f below in let more = c.gain.ensures.most f (omega arith) in omega arith;
    }
