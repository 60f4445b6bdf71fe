-- The finest partition of frames into worlds that are apart.
use Rattle.std.specs.Prelude.{◌≡◌, ◌==◌}
use Rattle.kernel_history.specs.{ℕ, Bool, List, Setting, State, Event, after}
use Rattle.world_parts.specs.{Last.IsLast, Partitions.IsPartition, Partitions.Respects, Partitions.world_in}
use Rattle.{seal_check.specs.world_laws.specs.gates, seal_check.specs.world_laws.specs.AreApart, machine_image.specs.Views.ImageOf}

-- Each frame has the least frame of its world. Each world and all the rest are joined by gates alone; and two frames of one world are on
-- one side of every set of frames of which that is so.
pub record IsFinest (s : State) (world : ℕ → ℕ) : Type 0 where
  pub partition : IsPartition world
  pub apart : (r : ℕ) → AreApart (λ f. world f == r) gates s
  pub finest : (w : ℕ → Bool) → AreApart w gates s → Respects world w

-- So it is in the final state of which this is the image.
abbrev pub TellsFinest : ImageOf → List ℕ → Type 0
TellsFinest m least = (setting : Setting) (events : List Event) → IsLast setting events m → IsFinest (after setting events) (world_in least)
