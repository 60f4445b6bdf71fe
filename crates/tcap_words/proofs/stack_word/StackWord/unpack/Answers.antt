use Rattle.tcap_words.proofs.StackLemmas.{stack_reads}
use Rattle.tcap_words.proofs.stack_word.StackWord.unpack.Goals as goal

pub returns-clause-reads : goal.returns-clause-reads
returns-clause-reads c = stack_reads c.read.result c.args.word c.read.ensures
