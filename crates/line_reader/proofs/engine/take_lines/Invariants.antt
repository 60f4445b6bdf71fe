use Rattle.{std.proofs.Common.length, std.proofs.Common.◌-◌, line_reader.proofs.LineSteps.Goes}
use Rattle.line_reader.proofs.engine.take_lines.Given as goal

abbrev pub invariant-lines : goal.invariant-lines
invariant-lines g l = Goes g.L.Lines.step g.L.Lines.Kept (g.L.Lines.said l.fn.draft) l.tokens l.at (g.L.Lines.said l.draft)

abbrev pub decreases-lines : goal.decreases-lines
decreases-lines g l = length l.tokens - l.at
