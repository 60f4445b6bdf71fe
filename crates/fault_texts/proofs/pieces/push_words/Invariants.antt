use Rattle.std.proofs.Common.{◌≡◌, ◌++◌, drop, string_bytes}
use Rattle.{line_reader.specs.Arguments.texts, fault_texts.specs.Pieces.words_text}
use Rattle.fault_texts.proofs.pieces.push_words.Given as goal

abbrev pub invariant-words : goal.invariant-words
invariant-words l =
    string_bytes l.text ++ words_text (texts (drop l.word-index l.words)) ≡ string_bytes l.initial.text ++ words_text (texts l.words)
