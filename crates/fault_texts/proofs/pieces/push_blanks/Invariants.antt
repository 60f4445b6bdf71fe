use Rattle.std.proofs.Common.{◌≡◌, ◌++◌, drop, string_bytes}
use Rattle.{line_reader.specs.Arguments.texts, fault_texts.specs.Pieces.blanks_text}
use Rattle.fault_texts.proofs.pieces.push_blanks.Given as goal

abbrev pub invariant-words : goal.invariant-words
invariant-words l =
    string_bytes l.text ++ blanks_text (texts (drop l.word-index l.words)) ≡ string_bytes l.initial.text ++ blanks_text (texts l.words)
