-- What a core in an open call relies on: frames that no other core may retype.
use Rattle.std.specs.Prelude.{◌⊎◌, ℕ, ◌<◌, Bool, true, false, IsTrue}
use Rattle.kernel_rules.specs.State.{Table, Leaf, Pages, Pleaf, Comp, Frame, Kernel, FrameOf, State}
use Rattle.kernel_rules.specs.References.{refs}

-- Whether a frame is a node.
abbrev pub is_node : Frame → Bool
is_node (Kernel Table) = true
is_node (Kernel Leaf) = true
is_node (Kernel Pages) = true
is_node (Kernel Pleaf) = true
is_node _ = false

-- Whether a frame has an object that no call changes: a node or a component.
abbrev pub is_fixed : Frame → Bool
is_fixed (Kernel Table) = true
is_fixed (Kernel Leaf) = true
is_fixed (Kernel Pages) = true
is_fixed (Kernel Pleaf) = true
is_fixed (Kernel (Comp k)) = true
is_fixed _ = false

-- No core but c may retype the frame: it is referenced, or c waits for it.
abbrev pub IsGuarded : State → ℕ → ℕ → Type 0
IsGuarded s c f = (0 < refs s f) ⊎ IsTrue ((s.grace (FrameOf f)).waits c)

-- Core c relies on a node, which no other core may retype.
pub record Relies (s : State) (c f : ℕ) : Type 0 where
  pub node : IsTrue (is_node (s.frame f))
  pub guarded : IsGuarded s c f
