use Rattle.{world_lines.specs.any_below, world_lines.specs.works_there, std.proofs.Common.◌≡◌, world_parts.specs.Seen.seen}
use Rattle.{world_parts.specs.Partitions.world_in}
use Rattle.world_lines.proofs.lines.has_core.Given as goal

abbrev pub invariant-cores : goal.invariant-cores
invariant-cores l = l.has ≡ any_below (works_there (seen l.image) (world_in l.parts) l.world) l.core
