use Rattle.{std.proofs.Common.◌∙◌, std.proofs.Common.sym, call_reader.proofs.Spelled.found_word}
use Rattle.call_reader.proofs.first_words.first_word.Goals as goal

pub returns-then-is_word : goal.returns-then-is_word
returns-then-is_word c = c.in_version.ensures
    ∙ found_word c.args.version c.args.word.now c.verb_name.result.now _ (sym c.is_word.ensures ∙ c.if-is_word.true) c.verb_name.ensures
