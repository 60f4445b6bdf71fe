use Rattle.frame_words.proofs.FrameLemmas.{frame_reads}
use Rattle.frame_words.proofs.frame_word.FrameWord.unpack.Goals as goal

pub returns-clause-reads : goal.returns-clause-reads
returns-clause-reads c = frame_reads c.read.result c.args.word c.read.ensures
