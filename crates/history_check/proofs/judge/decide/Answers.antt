use Rattle.call_judge.specs.same_changes.specs.kernel_laws.proofs.{◌≡◌, ◌<◌, ◌+◌, ◌∙◌, refl, sym, ap, arith, Open}
use Rattle.history_check.proofs.{Cores.seen_at, Cores.open_is, Marks.reply_breaks, Marks.has_decided}
use Rattle.{marked_history.specs.Histories.phase, history_check.specs.Judging.seen_of}
use Rattle.history_check.proofs.judge.decide.Goals as goal

pub returns-then-not-branch-clause-exact : goal.returns-then-not-branch-clause-exact
returns-then-not-branch-clause-exact c = λ setting lim marks come room machine.
    let few : c.args.core < 8 = omega (arith, c.number.ensures.value, c.number.ensures.range) in
    let own : seen_of c.args.judge.now.seen.items c.args.core ≡ c.index.result.now =
    seen_at c.args.judge.now.seen.items c.args.core c.from.result c.index.result.now c.requires.judge.eight few
    (c.from.ensures ∙ c.number.ensures.value) c.index.ensures in
    let opens : phase marks c.args.core ≡ Open c.in-Open.call =
    open_is (phase marks c.args.core) c.in-Open.call (sym (ap (λ x. x.at) own ∙ c.in-Open.is) ∙ come.cores c.args.core) in
    reply_breaks setting marks c.args.judge.now c.args.judge.now come c.args.core c.in-Open.call c.args.reply.now opens lim
    c.is_held_up.result c.in_ok-decide_by.field-0 c.decide_by.new.k c.is_held_up.ensures c.if-not-is_held_up.false
    c.in_ok-decide_by.ensures.exact c.if-not-branch.true

pub returns-clause-exact : goal.returns-clause-exact
returns-clause-exact c = λ setting lim marks come room machine.
    let few : c.args.core < 8 = omega (arith, c.number.ensures.value, c.number.ensures.range) in
    let own : seen_of c.args.judge.now.seen.items c.args.core ≡ c.index.result.now =
    seen_at c.args.judge.now.seen.items c.args.core c.from.result c.index.result.now c.requires.judge.eight few
    (c.from.ensures ∙ c.number.ensures.value) c.index.ensures in
    let opens : phase marks c.args.core ≡ Open c.in-Open.call =
    open_is (phase marks c.args.core) c.in-Open.call (sym (ap (λ x. x.at) own ∙ c.in-Open.is) ∙ come.cores c.args.core) in
    let more : c.saturating_add-judge.result ≡ c.args.judge.now.decided + 1 =
    omega (arith, c.saturating_add-judge.ensures, c.see.ensures.decided, come.decided, room) in
    has_decided setting marks c.args.judge.now _ come c.args.core c.in-Open.call c.args.reply.now opens _ lim c.requires.judge.eight few machine
    c.is_held_up.result c.in_ok-decide_by.field-0 c.decide_by.new.k c.is_held_up.ensures c.if-not-is_held_up.false
    c.in_ok-decide_by.ensures.exact c.if-not-branch.false c.see.ensures.kernel refl (sym (ap (λ x. x.entered) own))
    c.see.ensures.seen c.see.ensures.alone more
