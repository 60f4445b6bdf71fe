use Rattle.{std.proofs.Common.refl, tcap_words.specs.Quality.word_of_quality, tcap_words.proofs.QualityLemmas.spelling}
use Rattle.tcap_words.proofs.quality_word.quality_spelling.Goals as goal

pub returns-clause-spelling : goal.returns-clause-spelling
returns-clause-spelling c = spelling

pub returns-clause-none : goal.returns-clause-none
unfolding word_of_quality
returns-clause-none c = refl
