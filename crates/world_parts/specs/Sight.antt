-- What of a machine its worlds are told by, once no core is in a call.
use Rattle.std.specs.Prelude.{if◌then◌else◌}
use Rattle.kernel_history.specs.{ℕ, Bool, true, false, ltb as nat_lt, Option, Some, None, Capability, Comp, Frame, Untyped}
use Rattle.kernel_history.specs.{Kernel, State, held_in}
use Rattle.seal_check.specs.world_laws.specs.Worlds.{works_in}

-- How many frames and cores there are, what each place holds, the table and the pages of each component, which frames are untyped, and in
-- which component each core works.
pub record Sight : Type 0 where
  pub frames : ℕ
  pub cores : ℕ
  pub held : ℕ → ℕ → Option Capability
  pub comp : ℕ → Option (ℕ × ℕ)
  pub untyped : ℕ → Bool
  pub works : ℕ → ℕ

-- The table and the pages of a frame's component.
abbrev pub fields_of : Frame → Option (ℕ × ℕ)
fields_of (Kernel (Comp k)) = Some (k.table, k.pages)
fields_of _ = None

abbrev pub is_untyped : Frame → Bool
is_untyped Untyped = true
is_untyped _ = false

-- Those of a state; a core past the machine's works nowhere, which is said as frame 0.
abbrev pub sight_of : State → Sight
sight_of s = record {
  frames = s.limits.frames;
  cores = s.limits.cores;
  held = λ f i. held_in (s.place f i);
  comp = λ f. fields_of (s.frame f);
  untyped = λ f. is_untyped (s.frame f);
  works = λ c. if nat_lt c s.limits.cores then works_in s c else 0;
}
