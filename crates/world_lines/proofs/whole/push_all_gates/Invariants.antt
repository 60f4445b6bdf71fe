use Rattle.table_lines.specs.kernel_history.specs.{◌≡◌, ◌++◌, string_bytes, lines_below}
use Rattle.{world_parts.specs.Seen.seen, world_parts.specs.Partitions.world_in, world_lines.specs.Lines.gate_lines}
use Rattle.world_lines.proofs.whole.push_all_gates.Given as goal

abbrev pub invariant-nodes : goal.invariant-nodes
invariant-nodes l = string_bytes l.text ≡ string_bytes l.initial.text
    ++ lines_below (gate_lines (seen l.image) (world_in l.table.parts) l.table.ranges.items) l.number
