use Rattle.frame_words.proofs.CoreLemmas.{spelling}
use Rattle.frame_words.proofs.core_word.core_spelling.Goals as goal

pub returns : goal.returns
returns c = spelling
