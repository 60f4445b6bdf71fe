use Rattle.load_summary.proofs.Tallies.{Tallied}
use Rattle.load_summary.proofs.counts.push_count.Given as goal

abbrev pub invariant-decisions : goal.invariant-decisions
invariant-decisions l = Tallied l.number l.decisions l.decision-index l.name l.count
