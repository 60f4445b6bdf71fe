use Rattle.std.proofs.Common.{◌≡◌, ◌++◌, take, string_bytes, flat_map}
use Rattle.script_printer.specs.Printing.{call_line}
use Rattle.script_printer.proofs.printing.push_calls.Given as goal

abbrev pub invariant-loop-call : goal.invariant-loop-call
invariant-loop-call l = string_bytes l.text ≡ string_bytes l.initial.text ++ flat_map call_line (take l.call-index l.calls)
