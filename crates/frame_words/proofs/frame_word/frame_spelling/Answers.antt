use Rattle.{std.proofs.Common.refl, frame_words.specs.Frame.word_of_frame, frame_words.proofs.FrameLemmas.spelling}
use Rattle.frame_words.proofs.frame_word.frame_spelling.Goals as goal

pub returns-clause-spelling : goal.returns-clause-spelling
returns-clause-spelling c = spelling

pub returns-clause-untyped : goal.returns-clause-untyped
unfolding word_of_frame
returns-clause-untyped c = refl
