use Rattle.kernel_invariant.specs.kernel_rules.proofs.{◌<◌, ◌∙◌, ap, arith, has_core}
use Rattle.{seq_state.specs.state_of, seq_state.specs.grace_from, seq_state.proofs.TimeLemmas.put_on}
use Rattle.seq_state.proofs.kernel.SeqKernel.unflushed.Goals as goal

pub each-preserved : goal.each-preserved
each-preserved c =
    let most = c.cores-number-end.ensures.limits.most_cores in
    let end = c.cores-number-end.ensures.value in
    let small : c.each.number < 8 = omega arith in
    put_on (grace_from c.args.self.now c.period-period.result).unflushed (has_core c.each.set) (has_core c.put-set.result) c.each.number
    c.new-core.result c.part.result.unflushed c.new-core.ensures small c.part.ensures.unflushed c.put-set.ensures c.each.invariant

pub returns : goal.returns
unfolding state_of
returns c = λ d below. c.each.invariant d (omega arith) ∙ ap (λ p. (grace_from c.args.self.now p).unflushed d) c.period-period.ensures
