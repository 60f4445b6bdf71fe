use Rattle.std.proofs.Common.{◌≡◌, ◌≤◌, ◌+◌, ◌∙◌, ◌&&◌, sym, ap, arith, length, drop, true, false}
use Rattle.spk_nums.specs.Merging.{number_of, is_smaller, is_better}
use Rattle.preempt_test.proofs.Walks.{judged, past_end, all_passed}
use Rattle.preempt_test.proofs.better.Goals.{in-Some+else-not-smaller, in_default}
use Rattle.preempt_test.proofs.better.Goals as goal

pub returns-then-not-smaller : goal.returns-then-not-smaller
returns-then-not-smaller c =
    let worse : is_smaller c.in-Some.quality (number_of c.args.b.now c.in-Some.sched) ≡ false = cc in
    let step = judged c.args.a.now c.args.b.now c.pairs.i (c.in-Some.sched, c.in-Some.quality) (cc) in
    sym (c.pairs.invariant ∙ step ∙ ap (λ t. t && is_better (drop (c.pairs.i + 1) c.args.a.now) c.args.b.now) worse)

pub pairs-preserved : goal.pairs-preserved
pairs-preserved c =
    elim c.match-get.branch [
      | in-Some+else-not-smaller w ↦
          let better : is_smaller w.in-Some.quality (number_of c.args.b.now w.in-Some.sched) ≡ true = cc in
          let step = judged c.args.a.now c.args.b.now c.pairs.i (w.in-Some.sched, w.in-Some.quality) (cc) in
          c.pairs.invariant ∙ step ∙ ap (λ t. t && is_better (drop (c.pairs.i + 1) c.args.a.now) c.args.b.now) better
      | in_default w ↦ c.pairs.invariant ∙ ap (λ l. is_better l c.args.b.now) (past_end c.args.a.now c.pairs.i (cc))
    ]

pub returns : goal.returns
returns c =
    let far : length c.args.a.now ≤ c.pairs.i = omega arith in
    sym (c.pairs.invariant ∙ ap (λ l. is_better l c.args.b.now) (all_passed c.args.a.now c.pairs.i far))
