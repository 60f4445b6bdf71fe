use Rattle.table_lines.specs.kernel_history.specs.{◌≡◌, ◌++◌, string_bytes, lines_below}
use Rattle.{world_parts.specs.Seen.seen, world_parts.specs.Partitions.world_in, world_lines.specs.Lines.gate_line}
use Rattle.world_lines.proofs.whole.push_node.Given as goal

abbrev pub invariant-entries : goal.invariant-entries
invariant-entries l = string_bytes l.text ≡ string_bytes l.initial.text ++ lines_below (λ i.
    gate_line (seen l.image) (world_in l.table.parts) l.table.ranges.items l.node i ((seen l.image).held l.node i)) l.index
