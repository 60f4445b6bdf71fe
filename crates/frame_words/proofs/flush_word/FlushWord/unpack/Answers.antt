use Rattle.frame_words.proofs.FlushLemmas.{flush_reads}
use Rattle.frame_words.proofs.flush_word.FlushWord.unpack.Goals as goal

pub returns-clause-reads : goal.returns-clause-reads
returns-clause-reads c = flush_reads c.read.result c.args.word c.read.ensures
