use Rattle.load_summary.proofs.Told.{tells_each}
use Rattle.load_summary.proofs.law.counts_tell_each.Goals as goal

pub returns : goal.returns
returns c = tells_each
