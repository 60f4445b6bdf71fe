use Rattle.frame_words.proofs.CountLemmas.{spelling}
use Rattle.frame_words.proofs.count_word.count_spelling.Goals as goal

pub returns : goal.returns
returns c = spelling
