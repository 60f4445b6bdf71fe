use Rattle.kernel_invariant.specs.kernel_rules.proofs.{◌≡◌, take, arith, ap, sym, ◌∙◌, times}
use Rattle.seq_state.proofs.StackLemmas.{times_reverse}
use Rattle.seq_state.proofs.stack.Stack.times.Goals as goal

pub returns-clause-count : goal.returns-clause-count
returns-clause-count c =
    let all : c.each.at ≡ c.self.inside.len = omega arith in
    c.each.invariant.count ∙ ap (λ k. times c.args.frame (take k c.self.inside.cells)) all
    ∙ sym (times_reverse c.args.frame (take c.self.inside.len c.self.inside.cells)) ∙ ap (times c.args.frame) c.self.view_is
