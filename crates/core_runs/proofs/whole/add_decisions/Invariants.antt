use Rattle.{std.proofs.Common.◌≡◌, std.proofs.Common.◌++◌, std.proofs.Common.take, core_runs.specs.Whole.numbered}
use Rattle.core_runs.proofs.whole.add_decisions.Given as goal

abbrev pub invariant-loop-at : goal.invariant-loop-at
invariant-loop-at l = l.decisions.items ≡ l.initial.decisions.items ++ numbered l.core 1 (take l.at l.replies)
