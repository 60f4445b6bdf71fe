use Rattle.{std.proofs.Common.◌≡◌, std.proofs.Common.◌++◌, std.proofs.Common.string_bytes, world_parts.specs.Seen.seen}
use Rattle.{world_parts.specs.Partitions.world_in, world_lines.specs.Lines.those, world_lines.specs.Lines.works_there}
use Rattle.world_lines.proofs.lines.push_those.Given as goal

abbrev pub invariant-cores : goal.invariant-cores
invariant-cores l = string_bytes l.text
    ≡ string_bytes l.initial.text ++ those (works_there (seen l.image) (world_in l.parts) l.world) l.core
