use Rattle.std.proofs.Common.{◌≡◌, ◌++◌, take, string_bytes, flat_map}
use Rattle.world_lines.specs.Lines.{range_words}
use Rattle.world_lines.proofs.lines.push_ranges.Given as goal

abbrev pub invariant-each : goal.invariant-each
invariant-each l = string_bytes l.text ≡ string_bytes l.initial.text ++ flat_map (range_words l.world) (take l.range-index l.ranges)
