use Rattle.{std.proofs.Common.◌≡◌, std.proofs.Common.◌++◌, std.proofs.Common.string_bytes, load_summary.specs.Summaries.counts_below}
use Rattle.load_summary.proofs.counts.push_lines.Given as goal

abbrev pub invariant-numbers : goal.invariant-numbers
invariant-numbers l = string_bytes l.text ≡ string_bytes l.initial.text ++ counts_below l.number l.decisions
