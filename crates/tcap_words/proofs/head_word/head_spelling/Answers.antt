use Rattle.tcap_words.proofs.HeadLemmas.{spelling}
use Rattle.tcap_words.proofs.head_word.head_spelling.Goals as goal

pub returns : goal.returns
returns c = spelling
