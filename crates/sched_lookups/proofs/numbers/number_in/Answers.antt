use Rattle.seq_lookups.specs.seq_state.specs.kernel_rules.proofs.{◌≤◌, ◌∙◌, sym, ap, arith, length, number_of}
use Rattle.preempt_test.proofs.Walks.{found_here, passed_here, past_end, all_passed}
use Rattle.sched_lookups.proofs.numbers.number_in.Goals.{in-Some+else-named-sched, in_default}
use Rattle.sched_lookups.proofs.numbers.number_in.Goals as goal

pub returns-then-named-sched : goal.returns-then-named-sched
returns-then-named-sched c = sym (c.pairs.invariant
    ∙ found_here c.args.list.now c.pairs.i c.args.sched (c.in-Some.named, c.in-Some.number) (cc) c.if-named-sched.true)

pub pairs-preserved : goal.pairs-preserved
pairs-preserved c =
    elim c.match-get.branch [
      | in-Some+else-named-sched w ↦
          c.pairs.invariant ∙ passed_here c.args.list.now c.pairs.i c.args.sched (w.in-Some.named, w.in-Some.number) (cc)
          w.if-named-sched.false
      | in_default w ↦ c.pairs.invariant ∙ ap (λ l. number_of l c.args.sched) (past_end c.args.list.now c.pairs.i (cc))
    ]

pub returns : goal.returns
returns c =
    let far : length c.args.list.now ≤ c.pairs.i = omega arith in
    sym (c.pairs.invariant ∙ ap (λ l. number_of l c.args.sched) (all_passed c.args.list.now c.pairs.i far))
