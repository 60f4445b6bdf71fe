use Rattle.ends_reader.proofs.Amounts.{few_read, few_asks_read}
use Rattle.ends_reader.proofs.reading.read_ends.Goals as goal

pub returns-clause-calls : goal.returns-clause-calls
returns-clause-calls c = few_read c.args.source.now c.read_words.result c.read_words.ensures.value c.read_words.ensures.words

pub returns-clause-asks : goal.returns-clause-asks
returns-clause-asks c = few_asks_read c.args.source.now c.read_words.result c.read_words.ensures.value c.read_words.ensures.words
