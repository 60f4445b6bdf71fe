use Rattle.std.proofs.Common.{◌≡◌, ◌++◌, string_bytes}
use Rattle.{confinement.specs.Known.chain_known, origin_lines.specs.Lines.lines_known}
use Rattle.origin_lines.proofs.whole.push_nodes.Given as goal

abbrev pub invariant-nodes : goal.invariant-nodes
invariant-nodes l = string_bytes l.text ≡ string_bytes l.initial.text ++ lines_known (chain_known l.origins) l.number
