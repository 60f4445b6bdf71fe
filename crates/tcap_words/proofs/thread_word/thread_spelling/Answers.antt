use Rattle.tcap_words.proofs.ThreadLemmas.{spelling}
use Rattle.tcap_words.proofs.thread_word.thread_spelling.Goals as goal

pub returns : goal.returns
returns c = spelling
