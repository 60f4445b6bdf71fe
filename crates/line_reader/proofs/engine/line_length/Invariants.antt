use Rattle.line_reader.proofs.Rows.{Counts}
use Rattle.line_reader.proofs.engine.line_length.Given as goal

abbrev pub invariant-words : goal.invariant-words
invariant-words l = Counts l.tokens l.line l.token-index l.length
