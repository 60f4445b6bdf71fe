use Rattle.frame_words.proofs.CoreLemmas.{core_reads}
use Rattle.frame_words.proofs.core_word.CoreWord.unpack.Goals as goal

pub returns-clause-reads : goal.returns-clause-reads
returns-clause-reads c = core_reads c.read.result c.args.word c.read.ensures
