use Rattle.history_check.proofs.Lines.{Goes}
use Rattle.history_check.proofs.verdicts.verdict.Given as goal

abbrev pub invariant-lines : goal.invariant-lines
invariant-lines l = Goes l.setup l.lines l.line-index l.judge
