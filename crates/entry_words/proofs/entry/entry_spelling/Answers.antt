use Rattle.std.proofs.Common.{refl, arith}
use Rattle.{entry_words.specs.EntryWord.word_of_entry, entry_words.proofs.Spelling.spelling}
use Rattle.entry_words.proofs.entry.entry_spelling.Goals as goal

pub returns-clause-spelling : goal.returns-clause-spelling
returns-clause-spelling c = spelling

pub returns-clause-free : goal.returns-clause-free
unfolding word_of_entry
returns-clause-free c = refl

pub returns-clause-both : goal.returns-clause-both
unfolding word_of_entry
returns-clause-both c = λ kind frame arg. omega arith
