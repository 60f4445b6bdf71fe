use Rattle.entry_words.proofs.Spelling.{entry_reads}
use Rattle.entry_words.proofs.entry.Entry.unpack.Goals as goal

pub returns-clause-reads : goal.returns-clause-reads
returns-clause-reads c = entry_reads c.read.result c.args.word c.read.ensures
