use Rattle.{std.proofs.Common.◌≡◌, std.proofs.Common.◌++◌, std.proofs.Common.string_bytes, fault_texts.specs.Pieces.blanks}
use Rattle.fault_texts.proofs.pieces.push_spaces.Given as goal

abbrev pub invariant-loop-at : goal.invariant-loop-at
invariant-loop-at l = string_bytes l.text ≡ string_bytes l.initial.text ++ blanks l.at
