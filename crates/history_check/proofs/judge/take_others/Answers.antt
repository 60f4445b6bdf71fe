use Rattle.history_check.proofs.Lines.{ok_map, decision_breaks, return_found}
use Rattle.{std.proofs.Common.subst, marked_history.specs.declared.marks.Mark.TheVariants.Decide, history_check.specs.Judging.JudgesMark}
use Rattle.history_check.proofs.judge.take_others.Goals as goal

pub returns-in-Some-clause-exact : goal.returns-in-Some-clause-exact
returns-in-Some-clause-exact c =
    decision_breaks c.args.judge.now c.args.core c.args.reply.now c.take_mark.new.judge c.in-Some.why
    (subst (λ o. JudgesMark c.args.judge.now (Decide c.args.core c.args.reply.now) o c.take_mark.new.judge) c.in-Some.is
    c.in_ok-decided.ensures.exact)

pub returns-in-None-clause-exact : goal.returns-in-None-clause-exact
returns-in-None-clause-exact c =
    let one = subst (λ o. JudgesMark c.args.judge.now (Decide c.args.core c.args.reply.now) o c.take_mark.new.judge) c.in-None.is
    c.in_ok-decided.ensures.exact in
    ok_map c.take_mark-in-None.result
    (λ w judged. return_found c.args.judge.now c.args.core c.args.reply.now c.take_mark.new.judge c.take_mark-in-None.new.judge w one judged)
    c.take_mark-in-None.ensures.exact
