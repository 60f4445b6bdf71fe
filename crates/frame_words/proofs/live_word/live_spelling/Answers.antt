use Rattle.{std.proofs.Common.refl, frame_words.specs.Live.word_of_live, frame_words.proofs.LiveLemmas.spelling}
use Rattle.frame_words.proofs.live_word.live_spelling.Goals as goal

pub returns-clause-spelling : goal.returns-clause-spelling
returns-clause-spelling c = spelling

pub returns-clause-free : goal.returns-clause-free
unfolding word_of_live
returns-clause-free c = refl
