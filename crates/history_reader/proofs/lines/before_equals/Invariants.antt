use Rattle.std.proofs.Common.{◌≡◌, ◌+◌, ◌≤◌, length, drop}
use Rattle.{line_reader.specs.Arguments.texts, history_reader.specs.Lines.before_equals}
use Rattle.history_reader.proofs.lines.before_equals.Given as goal

abbrev pub invariant-words : goal.invariant-words
invariant-words l = record { value : l.place ≡ before_equals (texts (drop l.index l.words)); within : l.place + l.index ≤ length l.words }

abbrev pub decreases-words : goal.decreases-words
decreases-words l = l.index
