use Rattle.plain_kernel.proofs.Stepping.{always, spent_here, dead_here, made_here}
use Rattle.plain_kernel.proofs.step.plain_step.Goals as goal

pub returns-then-are_spent-clause-exact : goal.returns-then-are_spent-clause-exact
returns-then-are_spent-clause-exact c =
    always c.args.k.now c.leave.new.self c.args.core c.args.call.now _ c.requires.core c.requires.limits
    (λ setting lim events run out below e. spent_here setting lim events run c.args.core c.args.call.now below out c.requires.limits
    c.args.k.now c.enter.new.self c.leave.new.self e c.enter.ensures c.if-are_spent.ensures.value c.leave.ensures)

pub returns-then-not-acts-clause-exact : goal.returns-then-not-acts-clause-exact
returns-then-not-acts-clause-exact c =
    always c.args.k.now c.finish.new.k c.args.core c.args.call.now _ c.requires.core c.requires.limits
    (λ setting lim events run out below e. dead_here setting lim events run c.args.core c.args.call.now below out c.requires.limits
    c.args.k.now c.enter.new.self c.finish.new.k e c.enter.ensures c.if-are_spent.ensures.value c.if-not-acts.ensures c.finish.ensures)

pub returns-clause-exact : goal.returns-clause-exact
returns-clause-exact c =
    always c.args.k.now c.finish-2.new.k c.args.core c.args.call.now c.in_ok-reply.reply c.requires.core c.requires.limits
    (λ setting lim events run out below e. made_here setting lim events run c.args.core c.args.call.now below out c.requires.limits
    c.args.k.now c.enter.new.self c.decide.new.k c.finish-2.new.k c.in_ok-reply.reply e c.enter.ensures c.if-are_spent.ensures.value
    c.if-not-acts.ensures c.in_ok-reply.ensures.exact c.finish-2.ensures)
