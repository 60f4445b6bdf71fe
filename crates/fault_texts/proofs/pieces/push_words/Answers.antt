use Rattle.{std.specs.Prelude.string_bytes, fault_texts.proofs.Appended.words_more, fault_texts.proofs.Appended.words_end}
use Rattle.fault_texts.proofs.pieces.push_words.Goals as goal

pub words-preserved : goal.words-preserved
words-preserved c =
    words_more c.args.words.now c.words.word-index _ (string_bytes c.words.text) _ (string_bytes c.push_spaced.new.text) c.words-test.true
    c.words.invariant c.in_ok-push_spaced.ensures

pub returns : goal.returns
returns c = words_end c.args.words.now c.words.word-index (string_bytes c.words.text) _ c.words-test.false c.words.invariant
