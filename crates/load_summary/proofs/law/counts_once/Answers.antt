use Rattle.load_summary.proofs.ReplyWords.{counted_once}
use Rattle.load_summary.proofs.law.counts_once.Goals as goal

pub returns : goal.returns
returns c = counted_once
