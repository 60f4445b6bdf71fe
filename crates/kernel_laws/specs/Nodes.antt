-- What nodes hold: roots of capability tables links to leaves, leaves no links and no pages, roots of page tables links to leaves
-- of pages, and these pages alone.
use Rattle.std.specs.Prelude.{◌≡◌, ◌||◌}
use Rattle.found_stays.specs.kernel_rules.specs.{ℕ, Bool, true, false, not, List, Some, IsTrue, Setting, IsSetting, Capability}
use Rattle.found_stays.specs.kernel_rules.specs.{Kind, Holds, Table, Leaf, Pages, Pleaf, Frame, Kernel, comp_of, Slot, only, usable, Found}
use Rattle.found_stays.specs.kernel_rules.specs.{mapped, is_node, Event, after, is_open, phase_of, IsRun}

-- Whether a node may hold a capability of a kind.
abbrev pub takes : Frame → Kind → Bool
takes (Kernel Table) k = only Kind.Link k
takes (Kernel Leaf) k = not (only Kind.Link k || only Kind.Page k)
takes (Kernel Pages) k = only Kind.Link k
takes (Kernel Pleaf) k = only Kind.Page k
takes _ k = false

-- Whether what a node holds may name a frame: a root's links name leaves of its kind.
abbrev pub leads_to : Frame → Frame → Bool
leads_to (Kernel Table) (Kernel Leaf) = true
leads_to (Kernel Table) _ = false
leads_to (Kernel Pages) (Kernel Pleaf) = true
leads_to (Kernel Pages) _ = false
leads_to _ x = true

-- A node holds a capability that fits it; its frame is the second.
pub record FitsNode (node : Frame) (k : Kind) (named : Frame) : Type 0 where
  pub kind : IsTrue (takes node k)
  pub leaf : IsTrue (leads_to node named)

-- What nodes hold, and what a core in an open call may use of them, fits them; so what such a core finds mapped is a page.
pub record NodesFit (setting : Setting) (events : List Event) : Type 0 where
  pub held : (f i : ℕ) (k : Capability) → (after setting events).place f i ≡ Holds k
      → FitsNode ((after setting events).frame f) k.kind ((after setting events).frame k.frame)
  pub used : (c : ℕ) (at : Slot) (k : Capability) → IsTrue (is_open (phase_of events c))
      → IsTrue (is_node ((after setting events).frame at.node))
      → usable (after setting events) c at ≡ Some k
      → FitsNode ((after setting events).frame at.node) k.kind ((after setting events).frame k.frame)
  pub pages : (c v : ℕ) (k : Capability) → IsTrue (is_open (phase_of events c))
      → mapped (after setting events) c (comp_of (after setting events) c).pages v ≡ Found k → k.kind ≡ Kind.Page

-- In every state that a run reaches, nodes hold what fits them.
abbrev pub NodesHoldWhatFits : Type 0
NodesHoldWhatFits = (setting : Setting) → IsSetting setting → (events : List Event) → IsRun setting events → NodesFit setting events
