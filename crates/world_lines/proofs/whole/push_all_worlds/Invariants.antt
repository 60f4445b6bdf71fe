use Rattle.table_lines.specs.kernel_history.specs.{◌≡◌, ◌++◌, string_bytes, lines_below}
use Rattle.{world_parts.specs.Seen.seen, world_parts.specs.Partitions.world_in, world_lines.specs.Lines.world_line}
use Rattle.world_lines.proofs.whole.push_all_worlds.Given as goal

abbrev pub invariant-worlds : goal.invariant-worlds
invariant-worlds l = string_bytes l.text ≡ string_bytes l.initial.text
    ++ lines_below (world_line (seen l.image) (world_in l.table.parts) l.table.ranges.items) l.number
