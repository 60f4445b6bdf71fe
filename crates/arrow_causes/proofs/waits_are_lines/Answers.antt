use Rattle.arrow_causes.proofs.Waiting as waiting
use Rattle.arrow_causes.proofs.waits_are_lines.Goals as goal

pub returns : goal.returns
returns c = waiting.waits_are_lines
