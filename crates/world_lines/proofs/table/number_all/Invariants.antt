use Rattle.std.proofs.Common.{◌≡◌, ◌<◌, ◌≤◌, ℕ, Some, length, slice_get}
use Rattle.{world_parts.specs.Seen.seen, world_parts.specs.Partitions.world_in, world_lines.specs.Lines.number_at}
use Rattle.world_lines.proofs.table.number_all.Given as goal

abbrev pub invariant-frames : goal.invariant-frames
invariant-frames l = record {
  done : (r : ℕ) → r < l.frame → slice_get l.numbers r ≡ Some (number_at (seen l.image) (world_in l.parts) l.ranges.items r);
  told : l.told ≡ number_at (seen l.image) (world_in l.parts) l.ranges.items l.frame;
  most : l.told ≤ l.frame;
  size : length l.numbers ≡ 512;
}
