use Rattle.{history_check.specs.JudgesLine, history_check.specs.BreaksAfter, std.proofs.Common.sym, std.proofs.Common.subst}
use Rattle.{history_check.proofs.Lines.goes_on, history_check.proofs.Ends.breaks_after}
use Rattle.history_check.proofs.coming.find_break.Goals as goal

pub returns-in-Some : goal.returns-in-Some
returns-in-Some c =
    subst (λ i. BreaksAfter c.args.setup.now c.args.lines.now i c.in-Some.why) (sym c.lines.invariant.1)
    (breaks_after c.args.setup.now c.cores-limits.ensures.limits c.args.lines.now c.lines.line-index c.line-item.result c.lines-test.true
    c.requires.few c.requires.fit c.lines.judge c.take_line.new.judge c.lines.invariant.0 c.in-Some.why c.line-item.is
    (subst (λ o. JudgesLine c.lines.judge c.line-item.result.said o c.take_line.new.judge) c.in-Some.is c.in_ok-found.ensures.exact))

pub lines-preserved : goal.lines-preserved
lines-preserved c = (
  goes_on c.args.setup.now c.cores-limits.ensures.limits c.args.lines.now c.lines.line-index c.line-item.result c.lines-test.true
      c.requires.few c.requires.fit c.lines.judge c.take_line.new.judge c.lines.invariant.0 c.line-item.is c.take_line.ensures.judge
      (subst (λ o. JudgesLine c.lines.judge c.line-item.result.said o c.take_line.new.judge) c.in-None.is c.in_ok-found.ensures.exact),
  rw c.lines.invariant.1 search,
)
