-- Which frames a frame of a machine is joined with.
use Rattle.std.specs.Prelude.{◌≡◌, ◌<◌, ◌⊎◌}
use Rattle.kernel_history.specs.{ℕ, List, true, Option, Some, None, Capability, found, has_frame}
use Rattle.world_parts.specs.{Partitions.world_in, Sight.Sight}
use Rattle.{seal_check.specs.world_laws.specs.Worlds.LeadsTo, seal_check.specs.Holding.holds}

-- A component has its table or its pages in frame g.
abbrev pub HasField : Option (ℕ × ℕ) → ℕ → Type 0
HasField None g = ⊥
HasField (Some fields) g = (g ≡ fields.0) ⊎ (g ≡ fields.1)

-- What a place holds may be used, is no gate, and leads to frame g.
abbrev pub Reaches : Option Capability → ℕ → Type 0
Reaches None g = ⊥
Reaches (Some k) g = (holds k ≡ true) × LeadsTo k.kind k g

-- So it is of one of the first n places of frame f.
abbrev pub HoldsBelow : Sight → ℕ → ℕ → ℕ → Type 0
HoldsBelow x f n g = (i : ℕ) × (i < n) × Reaches (x.held f i) g

-- Frame f holds g by its component or by a place.
abbrev pub HoldsFrame : Sight → ℕ → ℕ → Type 0
HoldsFrame x f g = HasField (x.comp f) g ⊎ HoldsBelow x f 64 g

-- One of the first n frames does.
abbrev pub IsHeldBelow : Sight → ℕ → ℕ → ℕ → Type 0
IsHeldBelow x n f g = (f < n) × HoldsFrame x f g

-- A range has frame g.
abbrev pub InRange : Option Capability → ℕ → Type 0
InRange None g = ⊥
InRange (Some k) g = has_frame (found k) g ≡ true

-- The frames of a range are in the world of a node.
abbrev pub AreWith : List ℕ → ℕ → Option Capability → Type 0
AreWith least node range = (g : ℕ) → node < 512 → g < 512 → InRange range g → world_in least node ≡ world_in least g
