use Rattle.frame_words.proofs.CompLemmas.{comp_reads}
use Rattle.frame_words.proofs.comp_word.CompWord.unpack.Goals as goal

pub returns-clause-reads : goal.returns-clause-reads
returns-clause-reads c = comp_reads c.read.result c.args.word c.read.ensures
