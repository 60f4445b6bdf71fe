use Rattle.trace_reads.proofs.Laws.{traces_are_legal}
use Rattle.trace_reads.proofs.traces_are_legal.Goals as goal

-- src/lib.rt:21:1
pub returns : goal.returns
returns c = traces_are_legal
