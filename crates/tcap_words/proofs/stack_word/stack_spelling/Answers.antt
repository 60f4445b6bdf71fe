use Rattle.{std.proofs.Common.refl, tcap_words.specs.Stack.word_of_stack, tcap_words.proofs.StackLemmas.spelling}
use Rattle.tcap_words.proofs.stack_word.stack_spelling.Goals as goal

pub returns-clause-spelling : goal.returns-clause-spelling
returns-clause-spelling c = spelling

pub returns-clause-none : goal.returns-clause-none
unfolding word_of_stack
returns-clause-none c = refl
