-- Whether what a machine has is sealed.
use Rattle.std.specs.Prelude.{◌≡◌, ◌<◌, ◌↔◌, ◌&&◌}
use Rattle.seq_lookups.specs.seq_state.specs.kernel_rules.specs.{not, ℕ, Bool, true, false, List, Option, Some, None, slice_get, IsTrue}
use Rattle.seq_lookups.specs.seq_state.specs.kernel_rules.specs.{Capability, Setting, IsSetting, Kind, Comp, Frame, Kernel, Slot, found}
use Rattle.seq_lookups.specs.seq_state.specs.kernel_rules.specs.{usable, has_frame}
use Rattle.seq_lookups.specs.seq_state.specs.kernel_rules.specs.{Event, after, IsRun}
use Rattle.world_laws.specs.{gates, HoldsNone, IsSealed}
use Rattle.{seq_lookups.specs.seq_state.specs.State, seq_lookups.specs.seq_state.specs.Represents}
use Rattle.{seq_lookups.specs.seq_state.specs.Maps.Maps}

-- A test tells whether this holds.
pub record Tells (answer : Bool) (Fact : Type 0) : Type 0 where
  pub yes : answer ≡ true → Fact
  pub no : answer ≡ false → Fact → ⊥

-- The frames at which a list is true; those past it are outside.
abbrev pub or_false : Option Bool → Bool
or_false None = false
or_false (Some b) = b

abbrev pub is_in : List Bool → ℕ → Bool
is_in world f = or_false (slice_get world f)

-- No frame of a range is in a world.
abbrev pub IsRangeFree : (ℕ → Bool) → Capability → Type 0
IsRangeFree w k = (f : ℕ) → has_frame (found k) f ≡ true → w f ≡ false

-- An answer tells whether a capability of a kind leads to a frame of a world.
abbrev pub MeetsBy : Kind → (ℕ → Bool) → Capability → Bool → Type 0
MeetsBy Kind.Range w k answer = Tells (not answer) (IsRangeFree w k)
MeetsBy _ w k answer = answer ≡ w k.frame

-- What some core may use at a slot holds nothing of a world.
abbrev pub IsPlaceFree : State → (ℕ → Bool) → Slot → Type 0
IsPlaceFree s w at = (d : ℕ) (k : Capability) → d < s.limits.cores → usable s d at ≡ Some k → HoldsNone w gates k

-- No place of a node does.
abbrev pub ArePlacesFree : State → (ℕ → Bool) → ℕ → Type 0
ArePlacesFree s w f = (i : ℕ) → i < 64 → IsPlaceFree s w (record { node = f; index = i })

-- A frame's component has neither its table nor its pages in a world.
abbrev pub has_none : (ℕ → Bool) → Frame → Bool
has_none w (Kernel (Comp k)) = not (w k.table) && not (w k.pages)
has_none w _ = true

-- Neither the fields nor the places of a frame hold anything of a world.
pub record IsFrameFree (s : State) (w : ℕ → Bool) (f : ℕ) : Type 0 where
  pub fields : has_none w (s.frame f) ≡ true
  pub places : ArePlacesFree s w f

-- So it is of each frame of the machine outside.
abbrev pub IsSealedHere : State → (ℕ → Bool) → Type 0
IsSealedHere s w = (f : ℕ) → f < s.limits.frames → w f ≡ false → IsFrameFree s w f

-- In each state of a run that a kernel represents, the answer tells whether the world is sealed.
abbrev pub TellsSeal : Maps → List Bool → Bool → Type 0
TellsSeal k world answer = (setting : Setting) → IsSetting setting → (events : List Event) → IsRun setting events
    → Represents k (after setting events) → Tells answer (IsSealed (is_in world) gates (after setting events))
