use Rattle.{std.proofs.Common.ap, std.proofs.Common.◌∙◌, script_reader.specs.script_of, script_reader.specs.script_view}
use Rattle.{script_printer.proofs.PrintedLines.printed_read}
use Rattle.script_printer.proofs.printing.print.Goals as goal

pub returns-clause-read : goal.returns-clause-read
returns-clause-read c = λ within. ap script_of c.in_ok-text.ensures ∙ printed_read (script_view c.args.script.now) within
