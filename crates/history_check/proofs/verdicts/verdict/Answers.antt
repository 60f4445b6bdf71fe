use Rattle.history_check.proofs.Lines.{goes_on, breaks_at}
use Rattle.{std.proofs.Common.subst, history_check.specs.Judging.JudgesLine}
use Rattle.history_check.proofs.verdicts.verdict.Goals as goal

pub returns-in-Some : goal.returns-in-Some
returns-in-Some c =
    breaks_at c.args.setup.now c.cores-limits.ensures.limits c.args.lines.now c.lines.line-index c.line-item.result c.lines-test.true
    c.requires.few c.requires.fit c.lines.judge c.take_line.new.judge c.lines.invariant c.in-Some.why c.line-item.is
    (subst (λ o. JudgesLine c.lines.judge c.line-item.result.said o c.take_line.new.judge) c.in-Some.is c.in_ok-found.ensures.exact)

pub lines-preserved : goal.lines-preserved
lines-preserved c =
    goes_on c.args.setup.now c.cores-limits.ensures.limits c.args.lines.now c.lines.line-index c.line-item.result c.lines-test.true
    c.requires.few c.requires.fit c.lines.judge c.take_line.new.judge c.lines.invariant c.line-item.is c.take_line.ensures.judge
    (subst (λ o. JudgesLine c.lines.judge c.line-item.result.said o c.take_line.new.judge) c.in-None.is c.in_ok-found.ensures.exact)
