use Rattle.history_check.proofs.Ends.{comes_on, comes_all}
use Rattle.history_check.proofs.coming.come_to.Goals as goal

pub lines-preserved : goal.lines-preserved
lines-preserved c =
    comes_on c.args.setup.now c.cores-limits.ensures.limits c.args.lines.now c.lines.line-index c.line-item.result c.lines-test.true
    c.requires.few c.requires.fit c.lines.judge c.take_line.new.judge c.lines.invariant _ c.line-item.is c.take_line.ensures.judge
    c.in_ok-take_line.ensures.exact

pub returns-clause-come : goal.returns-clause-come
returns-clause-come c = comes_all c.args.setup.now c.args.lines.now c.lines.line-index c.lines.judge c.lines.invariant c.lines-test.false
