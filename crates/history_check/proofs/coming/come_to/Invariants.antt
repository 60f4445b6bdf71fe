use Rattle.history_check.proofs.Ends.{Comes}
use Rattle.history_check.proofs.coming.come_to.Given as goal

abbrev pub invariant-lines : goal.invariant-lines
invariant-lines l = Comes l.setup l.lines l.line-index l.judge
