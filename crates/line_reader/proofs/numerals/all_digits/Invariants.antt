use Rattle.{std.proofs.Common.◌≡◌, std.proofs.Common.drop, line_reader.specs.Numerals.all_digits}
use Rattle.line_reader.proofs.numerals.all_digits.Given as goal

abbrev pub invariant-digits : goal.invariant-digits
invariant-digits l = all_digits (drop l.byte-index l.word) ≡ all_digits l.word
