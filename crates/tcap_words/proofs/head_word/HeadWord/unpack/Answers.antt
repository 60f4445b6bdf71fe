use Rattle.tcap_words.proofs.HeadLemmas.{head_reads}
use Rattle.tcap_words.proofs.head_word.HeadWord.unpack.Goals as goal

pub returns-clause-reads : goal.returns-clause-reads
returns-clause-reads c = head_reads c.read.result c.args.word c.read.ensures
