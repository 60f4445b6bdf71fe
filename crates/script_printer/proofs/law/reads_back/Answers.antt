use Rattle.script_printer.proofs.PrintedLines.{printed_read}
use Rattle.script_printer.proofs.law.reads_back.Goals as goal

pub returns : goal.returns
returns c = printed_read
