use Rattle.{std.specs.Prelude.string_bytes, fault_texts.proofs.Appended.blanks_more, fault_texts.proofs.Appended.blanks_end}
use Rattle.fault_texts.proofs.pieces.push_blanks.Goals as goal

pub words-preserved : goal.words-preserved
words-preserved c =
    blanks_more c.args.words.now c.words.word-index _ (string_bytes c.words.text) _ (string_bytes c.push_blank.new.text) c.words-test.true
    c.words.invariant c.in_ok-push_blank.ensures

pub returns : goal.returns
returns c = blanks_end c.args.words.now c.words.word-index (string_bytes c.words.text) _ c.words-test.false c.words.invariant
