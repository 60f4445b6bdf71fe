use Rattle.script_tokens.proofs.Steps.{Turned}
use Rattle.script_tokens.proofs.scanning.scan.Given as goal

abbrev pub invariant-bytes : goal.invariant-bytes
invariant-bytes l = Turned l.source l.at l.place l.line l.whole l.words.items
