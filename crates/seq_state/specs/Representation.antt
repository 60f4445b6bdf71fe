-- When two states are one for all that a machine has, and which states the plain kernel represents.
use Rattle.std.specs.Prelude.{◌≡◌, ◌<◌, if◌then◌else◌}
use Rattle.kernel_invariant.specs.kernel_rules.specs.{ℕ, Grace, Thing, PlaceOf, FrameOf, NumberOf, Limits}
use Rattle.{kernel_invariant.specs.kernel_rules.specs.with_grace, kernel_invariant.specs.kernel_rules.specs.same_thing}
use Rattle.{kernel_invariant.specs.kernel_rules.specs.State.State, seq_state.specs.Maps.Maps, seq_state.specs.Maps.state_of}

-- A thing's index, if it is a place, is one in a node.
abbrev pub HasIndex : Thing → Type 0
HasIndex (PlaceOf f i) = i < 64
HasIndex (FrameOf f) = Unit {0}
HasIndex (NumberOf l) = Unit {0}

-- A thing of a machine with these limits.
abbrev pub IsThing : Limits → Thing → Type 0
IsThing limits (PlaceOf f i) = (f < limits.frames) × (i < 64)
IsThing limits (FrameOf f) = f < limits.frames
IsThing limits (NumberOf l) = l < 64

-- The state with another grace period of one thing.
abbrev pub with_grace_of : State → Thing → Grace → State
with_grace_of s x g = with_grace s (λ y. if same_thing y x then g else s.grace y)

-- Two grace periods are one for the cores of a machine.
pub record SameGrace (cores : ℕ) (g h : Grace) : Type 0 where
  pub waits : (c : ℕ) → c < cores → g.waits c ≡ h.waits c
  pub not_passed : (c : ℕ) → c < cores → g.not_passed c ≡ h.not_passed c
  pub unflushed : (c : ℕ) → c < cores → g.unflushed c ≡ h.unflushed c
  pub flush_unknown : (c : ℕ) → c < cores → g.flush_unknown c ≡ h.flush_unknown c

-- Two states are one for all that a machine has: its places, frames, liveness numbers, cores and things.
pub record SameState (s t : State) : Type 0 where
  pub limits : s.limits ≡ t.limits
  pub place : (f i : ℕ) → f < t.limits.frames → i < 64 → s.place f i ≡ t.place f i
  pub frame : (f : ℕ) → f < t.limits.frames → s.frame f ≡ t.frame f
  pub number : (l : ℕ) → l < 64 → s.number l ≡ t.number l
  pub core : (c : ℕ) → c < t.limits.cores → s.core c ≡ t.core c
  pub grace : (x : Thing) → IsThing t.limits x → SameGrace t.limits.cores (s.grace x) (t.grace x)

-- The kernel represents a state.
abbrev pub Represents : Maps → State → Type 0
Represents k s = SameState (state_of k) s
