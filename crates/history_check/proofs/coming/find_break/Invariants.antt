use Rattle.{std.proofs.Common.◌≡◌, history_check.proofs.Lines.Goes}
use Rattle.history_check.proofs.coming.find_break.Given as goal

abbrev pub invariant-lines : goal.invariant-lines
invariant-lines l = Goes l.setup l.lines l.line-index l.judge × (l.at ≡ l.line-index)
