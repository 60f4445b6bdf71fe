use Rattle.frame_words.proofs.CountLemmas.{count_reads}
use Rattle.frame_words.proofs.count_word.CountWord.unpack.Goals as goal

pub returns-clause-reads : goal.returns-clause-reads
returns-clause-reads c = count_reads c.read.result c.args.word c.read.ensures
