-- What a core in an open call has found, and the nodes through which it looks, while other cores go on.
use Rattle.std.specs.Prelude.{◌≡◌, ◌≢◌, ◌⊎◌, ◌∷◌, ◌++◌}
use Rattle.kernel_laws.specs.kernel_rules.specs.{ℕ, Bool, true, false, List, [], Some, IsTrue, Setting, IsSetting}
use Rattle.kernel_laws.specs.kernel_rules.specs.{Capability, Kind, Call, Value, CompFields, Dead, comp_of, may_act, asks_life, Want, Slot}
use Rattle.kernel_laws.specs.kernel_rules.specs.{Named, Under, usable, reached, Found, named, is_node, Event, Decides, Out, after, core_of}
use Rattle.kernel_laws.specs.kernel_rules.specs.{is_open, phase_of, IsRun}
use Rattle.{kernel_laws.specs.spk_nums.specs.declared.replies.Reply.TheVariants.Ok, kernel_laws.specs.kernel_rules.specs.State.State}

-- Whether capabilities of a kind name nodes.
abbrev pub names_nodes : Kind → Bool
names_nodes Kind.Table = true
names_nodes Kind.Leaf = true
names_nodes Kind.Pages = true
names_nodes Kind.Pleaf = true
names_nodes Kind.Link = true
names_nodes _ = false

-- Core c may look through a node: a root of the component that it works in, or one named by a capability or link that it may use.
pub record IsNamedBy (s : State) (c f : ℕ) : Type 0 where
  pub at : Slot
  pub cap : Capability
  pub may : usable s c at ≡ Some cap
  pub kind : IsTrue (names_nodes cap.kind)
  pub frame : cap.frame ≡ f

abbrev pub LooksThrough : State → ℕ → ℕ → Type 0
LooksThrough s c f = (f ≡ (comp_of s c).table) ⊎ ((f ≡ (comp_of s c).pages) ⊎ IsNamedBy s c f)

-- From s to t, core c has what it had found: its component, what its names lead to, what it may use and reach through nodes; and
-- these nodes are the same.
pub record FindsStill (s t : State) (c : ℕ) : Type 0 where
  pub comp : comp_of t c ≡ comp_of s c
  pub names : (n : ℕ) (wanted : Want) (k : Capability) → named s c n wanted ≡ Found k → named t c n wanted ≡ Found k
  pub uses : (at : Slot) (k : Capability) → LooksThrough s c at.node → usable s c at ≡ Some k → usable t c at ≡ Some k
  pub reaches : (root : Named) (n : ℕ) (at : Slot) → LooksThrough s c root.frame → reached s c (Under root n) ≡ Some at
      → reached t c (Under root n) ≡ Some at
  pub nodes : (f : ℕ) → LooksThrough s c f → IsTrue (is_node (s.frame f)) × (t.frame f ≡ s.frame f)

-- The events are all of other cores.
abbrev pub AreOfOthers : ℕ → List Event → Type 0
AreOfOthers c [] = Unit {0}
AreOfOthers c (e ∷ events) = (c ≢ core_of e) × AreOfOthers c events

-- In a run, what a core in an open call has found stays found, and no other core retypes a node through which it looks, whatever
-- other cores do.
abbrev pub FoundStays : Type 0
FoundStays = (setting : Setting) → IsSetting setting → (later earlier : List Event) → IsRun setting (later ++ earlier)
    → (c : ℕ) → AreOfOthers c later → IsTrue (is_open (phase_of earlier c))
    → FindsStill (after setting earlier) (after setting (later ++ earlier)) c

-- In a run, a core in an open call that may act still may, whatever other cores do: a kill waits for it, and nobody takes the liveness
-- number before it returns.
abbrev pub ActingStays : Type 0
ActingStays = (setting : Setting) → IsSetting setting → (later earlier : List Event) → IsRun setting (later ++ earlier)
    → (c : ℕ) → AreOfOthers c later → IsTrue (is_open (phase_of earlier c)) → IsTrue (may_act (after setting earlier) c)
    → IsTrue (may_act (after setting (later ++ earlier)) c)

-- The component in which a core works was killed: its liveness number was dead in its epoch after these events, when the core was out of
-- its calls.
pub record WasKilled (setting : Setting) (before : List Event) (c : ℕ) (k : CompFields) : Type 0 where
  pub out : phase_of before c ≡ Out
  pub dead : (after setting before).number k.number ≡ Dead k.epoch

-- A component that was killed and whose core has left its call makes no further `ok` but `ret`, `flush` and `tick`: neither through
-- other components, in which the core has worked since, nor where the liveness number lives again.
abbrev pub KilledStop : Type 0
KilledStop = (setting : Setting) (later earlier : List Event) (c : ℕ) (call : Call) (v : Value)
    → IsRun setting (Decides c call (Ok v) ∷ later ++ earlier)
    → WasKilled setting earlier c (comp_of (after setting (later ++ earlier)) c)
    → asks_life call ≡ false
