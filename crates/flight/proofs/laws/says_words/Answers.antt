use Rattle.flight.proofs.Final.{says_words}
use Rattle.flight.proofs.laws.says_words.Goals as goal

-- src/laws.rt:18:1
pub returns : goal.returns
returns c = says_words
