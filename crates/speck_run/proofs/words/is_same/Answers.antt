use Rattle.speck_run.proofs.OneWord.{same_bytes}
use Rattle.speck_run.proofs.words.is_same.Goals as goal

pub returns : goal.returns
returns c = same_bytes c.args.word.now c.args.name.now c.eq.result c.eq.ensures
