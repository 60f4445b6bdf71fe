use Rattle.script_reader.proofs.Amounts.{few_read}
use Rattle.script_reader.proofs.reading.read.Goals as goal

pub returns-clause-calls : goal.returns-clause-calls
returns-clause-calls c = few_read c.args.source.now c.read_words.result c.read_words.ensures.value c.read_words.ensures.words
