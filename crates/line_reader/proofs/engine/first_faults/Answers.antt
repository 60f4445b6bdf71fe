use Rattle.line_reader.proofs.FirstFaults.{finds_first}
use Rattle.line_reader.proofs.engine.first_faults.Goals as goal

pub returns : goal.returns
returns g c = finds_first g.L.Lines.Said g.L.Lines.step
