use Rattle.history_check.proofs.Lines.{ok_map, entry_breaks, others_found}
use Rattle.{std.proofs.Common.subst, marked_history.specs.declared.marks.Mark.TheVariants.Enter, history_check.specs.Judging.JudgesMark}
use Rattle.history_check.proofs.judge.take_marks.Goals as goal

pub returns-in-Some-clause-exact : goal.returns-in-Some-clause-exact
returns-in-Some-clause-exact c =
    entry_breaks c.args.judge.now c.args.core c.args.call.now c.args.reply.now c.take_mark.new.judge c.in-Some.why
    (subst (λ o. JudgesMark c.args.judge.now (Enter c.args.core c.args.call.now) o c.take_mark.new.judge) c.in-Some.is
    c.in_ok-entered.ensures.exact)

pub returns-in-None-clause-exact : goal.returns-in-None-clause-exact
returns-in-None-clause-exact c =
    let one = subst (λ o. JudgesMark c.args.judge.now (Enter c.args.core c.args.call.now) o c.take_mark.new.judge) c.in-None.is
    c.in_ok-entered.ensures.exact in
    ok_map c.take_others.result
    (λ w judged. others_found c.args.judge.now c.args.core c.args.call.now c.args.reply.now c.take_mark.new.judge c.take_others.new.judge w one
    judged)
    c.take_others.ensures.exact
