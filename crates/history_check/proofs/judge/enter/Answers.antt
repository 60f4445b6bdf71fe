use Rattle.call_judge.specs.seq_state.proofs.{◌≡◌, ◌<◌, ◌+◌, ◌∙◌, refl, ap, subst, arith, entered, state_of, Represents}
use Rattle.{history_check.specs.Judging.seen_of, history_check.proofs.Cores.seen_at, history_check.proofs.Marks.has_entered}
use Rattle.history_check.proofs.judge.enter.Goals as goal

pub returns-clause-exact : goal.returns-clause-exact
returns-clause-exact c = λ setting lim marks come room machine.
    let few : c.args.core < 8 = omega (arith, c.number.ensures.value, c.number.ensures.range) in
    let own : seen_of c.args.judge.now.seen.items c.args.core ≡ c.index.result.now =
    seen_at c.args.judge.now.seen.items c.args.core c.from.result c.index.result.now c.requires.judge.eight few
    (c.from.ensures ∙ c.number.ensures.value) c.index.ensures in
    let more : c.saturating_add.result ≡ (seen_of c.args.judge.now.seen.items c.args.core).entered + 1 =
    omega (arith, c.saturating_add.ensures, ap (λ x. x.entered) own, come.entered c.args.core, room) in
    has_entered setting marks c.args.judge.now _ come c.args.core c.args.call.now c.is_another_in-another.result _ c.requires.judge.eight few
    machine (ap (λ x. x.at) own ∙ c.in-Out.is) c.is_another_in-another.ensures refl more c.see.ensures.seen c.alone_after-judge.ensures
    c.see.ensures.decided
    (subst (λ k. Represents c.enter.new.self (entered (state_of k) c.args.core)) c.see.ensures.kernel c.enter.ensures)
