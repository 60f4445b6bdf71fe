use Rattle.call_judge.specs.seq_state.proofs.{◌≡◌, ◌<◌, ◌∙◌, refl, sym, ap, subst, arith, returned, state_of, Represents}
use Rattle.{history_check.specs.Judging.seen_of, history_check.proofs.Cores.seen_at, history_check.proofs.Marks.has_left}
use Rattle.history_check.proofs.judge.leave.Goals as goal

pub returns-clause-exact : goal.returns-clause-exact
returns-clause-exact c = λ setting lim marks come room machine.
    let few : c.args.core < 8 = omega (arith, c.number.ensures.value, c.number.ensures.range) in
    let own : seen_of c.args.judge.now.seen.items c.args.core ≡ c.index.result.now =
    seen_at c.args.judge.now.seen.items c.args.core c.from.result c.index.result.now c.requires.judge.eight few
    (c.from.ensures ∙ c.number.ensures.value) c.index.ensures in
    has_left setting marks c.args.judge.now _ come c.args.core _ c.requires.judge.eight few machine (ap (λ x. x.at) own ∙ c.in-Decided.is)
    refl (sym (ap (λ x. x.entered) own)) c.see.ensures.seen c.see.ensures.alone c.see.ensures.decided
    (subst (λ k. Represents c.leave.new.self (returned (state_of k) c.args.core)) c.see.ensures.kernel c.leave.ensures)
