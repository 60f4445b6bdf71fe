-- The worlds of a machine, its ranges, and the numbers of its worlds.
use Rattle.std.specs.Prelude.{◌≡◌, ◌<◌, ◌≤◌, ℕ, Some, slice_get}
use Rattle.world_parts.specs.{Sight.Sight, Partitions.world_in}
use Rattle.world_lines.specs.{Lines.ranges_of, Lines.number_at, declared.table.WorldTable.WorldTable}

pub record IsTable (x : Sight) (t : WorldTable) : Type 0 where
  pub ranges : t.ranges.items ≡ ranges_of x (world_in t.parts)
  pub numbers : (r : ℕ) → r < 512 → slice_get t.numbers r ≡ Some (number_at x (world_in t.parts) t.ranges.items r)
  pub rest : (r : ℕ) → 512 ≤ r → t.told ≡ number_at x (world_in t.parts) t.ranges.items r
