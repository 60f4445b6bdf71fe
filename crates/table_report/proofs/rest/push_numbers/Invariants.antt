use Rattle.{std.proofs.Common.◌≡◌, std.proofs.Common.◌++◌, std.proofs.Common.string_bytes, table_report.specs.Shown.numbers_text}
use Rattle.table_report.proofs.rest.push_numbers.Given as goal

abbrev pub invariant-numbers : goal.invariant-numbers
invariant-numbers l = string_bytes l.text ≡ string_bytes l.initial.text ++ numbers_text l.image.shape l.image.words l.number
