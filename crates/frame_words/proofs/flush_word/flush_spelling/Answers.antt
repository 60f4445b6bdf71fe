use Rattle.frame_words.proofs.FlushLemmas.{spelling}
use Rattle.frame_words.proofs.flush_word.flush_spelling.Goals as goal

pub returns : goal.returns
returns c = spelling
