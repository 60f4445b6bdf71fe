use Rattle.script_printer.proofs.LineCounts.{few_lines}
use Rattle.script_printer.proofs.law.has_few_lines.Goals as goal

pub returns : goal.returns
returns c = few_lines
