-- Capabilities that name what they say.
use Rattle.std.specs.Prelude.{ℕ, ◌+◌, ◌≤◌, Bool, true, false, IsTrue}
use Rattle.spk_nums.specs.{Capability.Capability, declared.kinds.Kind.Kind}
use Rattle.kernel_rules.specs.State.{Table, Leaf, Pages, Pleaf, Comp, Thread, Tcap, Frame, User, Kernel, State}

-- Whether a frame has what a capability of a kind names.
abbrev pub fits : Kind → Frame → Bool
fits Kind.Range x = true
fits Kind.Table (Kernel Table) = true
fits Kind.Leaf (Kernel Leaf) = true
fits Kind.Pages (Kernel Pages) = true
fits Kind.Pleaf (Kernel Pleaf) = true
fits Kind.Comp (Kernel (Comp k)) = true
fits Kind.Gate (Kernel (Comp k)) = true
fits Kind.Thread (Kernel (Thread t)) = true
fits Kind.Tcap (Kernel (Tcap q)) = true
fits Kind.Link (Kernel Leaf) = true
fits Kind.Link (Kernel Pleaf) = true
fits Kind.Page User = true
fits _ _ = false

-- A range ends within the machine's frames.
abbrev pub EndsWithin : Kind → ℕ → ℕ → ℕ → Type 0
EndsWithin Kind.Range f n frames = f + n ≤ frames
EndsWithin _ f n frames = Unit {0}

-- A capability names a frame with an object of its kind.
pub record IsGood (s : State) (k : Capability) : Type 0 where
  pub fit : IsTrue (fits k.kind (s.frame k.frame))
  pub within : EndsWithin k.kind k.frame k.arg s.limits.frames
