use Rattle.tcap_words.proofs.QualityLemmas.{quality_reads}
use Rattle.tcap_words.proofs.quality_word.QualityWord.unpack.Goals as goal

pub returns-clause-reads : goal.returns-clause-reads
returns-clause-reads c = quality_reads c.read.result c.args.word c.read.ensures
