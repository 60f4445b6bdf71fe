use Rattle.split_traces.proofs.Stretches.{stretches_are_silent}
use Rattle.split_traces.proofs.stretches_are_silent.Goals as goal

pub returns : goal.returns
returns c = stretches_are_silent
