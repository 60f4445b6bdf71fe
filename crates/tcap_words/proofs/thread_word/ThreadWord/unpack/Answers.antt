use Rattle.tcap_words.proofs.ThreadLemmas.{thread_reads}
use Rattle.tcap_words.proofs.thread_word.ThreadWord.unpack.Goals as goal

pub returns-clause-reads : goal.returns-clause-reads
returns-clause-reads c = thread_reads c.read.result c.args.word c.read.ensures
