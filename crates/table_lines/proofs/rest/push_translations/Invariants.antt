use Rattle.std.proofs.Common.{◌≡◌, ◌++◌, take, string_bytes, flat_map}
use Rattle.kernel_history.specs.Tables.{translation_line}
use Rattle.table_lines.proofs.rest.push_translations.Given as goal

abbrev pub invariant-loop-item : goal.invariant-loop-item
invariant-loop-item l = string_bytes l.text ≡ string_bytes l.initial.text ++ flat_map translation_line (take l.item-index l.items)
