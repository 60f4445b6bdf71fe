use Rattle.frame_words.proofs.LiveLemmas.{live_reads}
use Rattle.frame_words.proofs.live_word.LiveWord.unpack.Goals as goal

pub returns-clause-reads : goal.returns-clause-reads
returns-clause-reads c = live_reads c.read.result c.args.word c.read.ensures
