-- Partitions of frames in lists, and how they are joined.
use Rattle.std.specs.Prelude.{◌≡◌, ◌<◌, ◌≤◌, ◌==◌, if◌then◌else◌, ℕ, Bool, List, length, Option, Some, None, slice_get, option_map}

-- What a list has at a number, or the number itself past its end.
abbrev pub or_own : ℕ → Option ℕ → ℕ
or_own f None = f
or_own f (Some r) = r

-- The least frame of a frame's world; a frame past the list is alone.
abbrev pub world_in : List ℕ → ℕ → ℕ
world_in least f = or_own f (slice_get least f)

-- One number for another, and all others as they are.
abbrev pub moved : ℕ → ℕ → ℕ → ℕ
moved from to r = if r == from then to else r

-- Each frame has the least frame of its world, and so has that one.
pub record IsPartition (world : ℕ → ℕ) : Type 0 where
  pub least : (f : ℕ) → world f ≤ f
  pub of_least : (f : ℕ) → world (world f) ≡ world f

-- A list that is a partition of the frames below 512.
pub record IsParts (least : List ℕ) : Type 0 where
  pub size : length least ≡ 512
  pub partition : IsPartition (world_in least)

-- Two frames of one world are on one side of a set of frames.
abbrev pub Respects : (ℕ → ℕ) → (ℕ → Bool) → Type 0
Respects world w = (f g : ℕ) → world f ≡ world g → w f ≡ w g

-- A partition is joined from another where frames below 512 hold each other so: what was one world is one; what holds each other is one
-- world; and no more is than must be.
pub record Joins (Held : ℕ → ℕ → Type 0) (old new : ℕ → ℕ) : Type 0 where
  pub keeps : (f g : ℕ) → old f ≡ old g → new f ≡ new g
  pub joins : (f g : ℕ) → Held f g → f < 512 → g < 512 → new f ≡ new g
  pub only : (w : ℕ → Bool) → ((f g : ℕ) → Held f g → w f ≡ w g) → Respects old w → Respects new w

abbrev pub JoinsBy : (ℕ → ℕ → Type 0) → List ℕ → List ℕ → Type 0
JoinsBy Held old new = Joins Held (world_in old) (world_in new)
