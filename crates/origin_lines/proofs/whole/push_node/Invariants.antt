use Rattle.table_lines.specs.kernel_history.specs.{◌≡◌, ◌++◌, string_bytes, lines_below}
use Rattle.{confinement.specs.Known.chain_known, origin_lines.specs.Lines.chain_line}
use Rattle.origin_lines.proofs.whole.push_node.Given as goal

abbrev pub invariant-entries : goal.invariant-entries
invariant-entries l = string_bytes l.text ≡ string_bytes l.initial.text
    ++ lines_below (λ i. chain_line l.node i (chain_known l.origins l.node i)) l.index
