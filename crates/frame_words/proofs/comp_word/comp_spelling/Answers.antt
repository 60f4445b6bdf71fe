use Rattle.frame_words.proofs.CompLemmas.{spelling}
use Rattle.frame_words.proofs.comp_word.comp_spelling.Goals as goal

pub returns : goal.returns
returns c = spelling
