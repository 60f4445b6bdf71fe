use Rattle.std.proofs.Common.{◌≡◌, ◌++◌, drop, string_bytes}
use Rattle.script_printer.specs.Printing.{items_text}
use Rattle.script_printer.proofs.order.push_items.Given as goal

abbrev pub invariant-items : goal.invariant-items
invariant-items l = string_bytes l.text ++ items_text l.at (drop l.at l.order) ≡ string_bytes l.initial.text ++ items_text 0 l.order
