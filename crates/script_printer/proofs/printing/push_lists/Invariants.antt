use Rattle.std.proofs.Common.{◌≡◌, ◌++◌, drop, string_bytes}
use Rattle.{script_reader.specs.Readings.lists_of, script_printer.specs.Printing.list_lines}
use Rattle.script_printer.proofs.printing.push_lists.Given as goal

abbrev pub invariant-cores : goal.invariant-cores
invariant-cores l = string_bytes l.text ++ list_lines l.core (lists_of (drop l.core l.lists)) ≡ string_bytes l.initial.text
    ++ list_lines 0 (lists_of l.lists)
