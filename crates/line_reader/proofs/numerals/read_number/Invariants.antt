use Rattle.line_reader.proofs.Digits.{Reads}
use Rattle.line_reader.proofs.numerals.read_number.Given as goal

abbrev pub invariant-digits : goal.invariant-digits
invariant-digits l = Reads l.word l.byte-index l.number
