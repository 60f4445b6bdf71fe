use Rattle.history_reader.proofs.Amounts.{few_read}
use Rattle.history_reader.proofs.reading.read_history.Goals as goal

pub returns-clause-few : goal.returns-clause-few
returns-clause-few c = few_read c.args.source.now c.read_words.result c.read_words.ensures.value c.read_words.ensures.words
