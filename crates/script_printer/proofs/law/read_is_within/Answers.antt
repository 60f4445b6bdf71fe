use Rattle.script_printer.proofs.ReadLimits.{read_within}
use Rattle.script_printer.proofs.law.read_is_within.Goals as goal

pub returns : goal.returns
returns c = read_within
