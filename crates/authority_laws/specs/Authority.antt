-- Authority: which parts of the state a core may change, and by which capability.
use Rattle.std.specs.Prelude.{◌≡◌, ◌⊎◌, ◌∷◌}
use Rattle.state_laws.specs.kernel_rules.specs.{ℕ, Bool, true, false, List, [], Some, None, IsTrue, Setting, IsSetting, Call}
use Rattle.state_laws.specs.kernel_rules.specs.{Reply, Capability, Kind, Thread, Tcap, Frame, Kernel, comp_in, thread_in, tcap_in, found}
use Rattle.state_laws.specs.kernel_rules.specs.{to_use, usable, linked, fits, Found, named, has_frame, is_live, is_live_in, rule_of, Event}
use Rattle.state_laws.specs.kernel_rules.specs.{Decides, after, IsRun}
use Rattle.{state_laws.specs.kernel_rules.specs.State.State, call_names.specs.Names.IsName}

-- A part of the state: what a place of a node is; what kind of frame it is, and what object but for what follows; the stack of a thread,
-- and where it runs; the budget and the list of a temporal capability; a liveness number; a core.
pub data Part : Type 0 where
  PlaceIs : ℕ → ℕ → Part
  FrameIs : ℕ → Part
  StackIs : ℕ → Part
  RunsIs : ℕ → Part
  BudgetIs : ℕ → Part
  ListIs : ℕ → Part
  NumberIs : ℕ → Part
  CoreIs : ℕ → Part

-- What a frame is, but for the fields of a thread and of a temporal capability.
abbrev pub bare_of : Frame → Frame
bare_of (Kernel (Thread t)) = Kernel (Thread (record { stack = []; runs_on = None }))
bare_of (Kernel (Tcap q)) = Kernel (Tcap (record { budget = 0; qualities = [] }))
bare_of x = x

-- A node is this root, or a leaf that the root links and core c may use.
abbrev pub IsUnder : State → ℕ → ℕ → ℕ → Type 0
IsUnder s c root f = (f ≡ root) ⊎ ((i : ℕ) × (linked (usable s c (record { node = root; index = i })) ≡ Some f))

-- The component in a frame lives by this liveness number.
abbrev pub LivesBy : State → ℕ → ℕ → Type 0
LivesBy s f l = ((comp_in (s.frame f)).number ≡ l) × (is_live_in (s.number l) (comp_in (s.frame f)).epoch ≡ true)

-- What a capability that may be used gives core c to change: a table and pages, the places of their root and its leaves; a range, its
-- frames with their places, and a number that is not live; a component, the number by which it lives; a thread, where it runs; a
-- temporal capability, its budget and its list.
abbrev pub Over : State → ℕ → Kind → Capability → Part → Type 0
Over s c Kind.Table k (PlaceIs f i) = IsUnder s c k.frame f
Over s c Kind.Pages k (PlaceIs f i) = IsUnder s c k.frame f
Over s c Kind.Range k (PlaceIs f i) = has_frame (found k) f ≡ true
Over s c Kind.Range k (FrameIs f) = has_frame (found k) f ≡ true
Over s c Kind.Range k (NumberIs l) = is_live (s.number l) ≡ false
Over s c Kind.Comp k (NumberIs l) = LivesBy s k.frame l
Over s c Kind.Thread k (RunsIs f) = f ≡ k.frame
Over s c Kind.Tcap k (BudgetIs f) = f ≡ k.frame
Over s c Kind.Tcap k (ListIs f) = f ≡ k.frame
Over s c _ k x = ⊥

-- One of the numbers that the call names, and would use, leads core c to this capability; so this has the right to use.
pub record MayUse (call : Call) (s : State) (c : ℕ) (k : Capability) : Type 0 where
  pub number : ℕ
  pub kinds : Kind → Bool
  pub is_name : IsName s c (rule_of s c call) number (to_use kinds)
  pub leads : named s c number (to_use kinds) ≡ Found k

-- What is core c's own: itself, its thread's stack and where that runs, and the budget of its temporal capability.
abbrev pub IsOwn : State → ℕ → Part → Type 0
IsOwn s c (CoreIs d) = d ≡ c
IsOwn s c (StackIs f) = f ≡ (s.core c).thread
IsOwn s c (RunsIs f) = f ≡ (s.core c).thread
IsOwn s c (BudgetIs f) = f ≡ (s.core c).tcap
IsOwn s c x = ⊥

-- A part lies under a capability that the call may use.
pub record IsUnderOne (call : Call) (s : State) (c : ℕ) (x : Part) : Type 0 where
  pub cap : Capability
  pub may : MayUse call s c cap
  pub over : Over s c cap.kind cap x

-- Core c may change this part by the call.
abbrev pub MayChange : Call → State → ℕ → Part → Type 0
MayChange call s c x = IsOwn s c x ⊎ IsUnderOne call s c x

-- The fields of a thread, and of a temporal capability, are compared where the frame has one before and after; where it has one before or
-- after alone, the frame itself is another.
abbrev pub Stays : Kind → Frame → Frame → Type 0
Stays k x y = IsTrue (fits k x) × IsTrue (fits k y)

-- A part is the same in two states.
abbrev pub SamePart : State → State → Part → Type 0
SamePart s t (PlaceIs f i) = t.place f i ≡ s.place f i
SamePart s t (FrameIs f) = bare_of (t.frame f) ≡ bare_of (s.frame f)
SamePart s t (StackIs f) = Stays Kind.Thread (s.frame f) (t.frame f) → (thread_in (t.frame f)).stack ≡ (thread_in (s.frame f)).stack
SamePart s t (RunsIs f) = Stays Kind.Thread (s.frame f) (t.frame f) → (thread_in (t.frame f)).runs_on ≡ (thread_in (s.frame f)).runs_on
SamePart s t (BudgetIs f) = Stays Kind.Tcap (s.frame f) (t.frame f) → (tcap_in (t.frame f)).budget ≡ (tcap_in (s.frame f)).budget
SamePart s t (ListIs f) = Stays Kind.Tcap (s.frame f) (t.frame f) → (tcap_in (t.frame f)).qualities ≡ (tcap_in (s.frame f)).qualities
SamePart s t (NumberIs l) = t.number l ≡ s.number l
SamePart s t (CoreIs c) = t.core c ≡ s.core c

-- Whether a call is for the stack of its core's thread, for where that runs, or for its budget.
abbrev pub is_of_stack : Call → Bool
is_of_stack (Call.Call gate) = true
is_of_stack Call.Ret = true
is_of_stack _ = false

abbrev pub is_of_thread : Call → Bool
is_of_thread (Call.Switch thread tcap) = true
is_of_thread _ = false

abbrev pub is_of_budget : Call → Bool
is_of_budget (Call.Tick n) = true
is_of_budget _ = false

-- What of its core's own a call may change: the core; the stack by `call` and `ret`; where the thread runs by `switch`; the budget by
-- `tick`.
abbrev pub OwnBy : Call → State → ℕ → Part → Type 0
OwnBy call s c (CoreIs d) = d ≡ c
OwnBy call s c (StackIs f) = (f ≡ (s.core c).thread) × IsTrue (is_of_stack call)
OwnBy call s c (RunsIs f) = (f ≡ (s.core c).thread) × IsTrue (is_of_thread call)
OwnBy call s c (BudgetIs f) = (f ≡ (s.core c).tcap) × IsTrue (is_of_budget call)
OwnBy call s c x = ⊥

-- In every run, each part that a decision of core c changes is one that c may change by that call.
abbrev pub DecisionsHaveAuthority : Type 0
DecisionsHaveAuthority = (setting : Setting) → IsSetting setting → (events : List Event) (c : ℕ) (call : Call) (r : Reply)
    → IsRun setting (Decides c call r ∷ events) → (x : Part)
    → SamePart (after setting events) (after setting (Decides c call r ∷ events)) x ⊎ MayChange call (after setting events) c x

-- What is its core's own, a decision changes by the calls that are for it alone.
abbrev pub CallsChangeTheirOwn : Type 0
CallsChangeTheirOwn = (setting : Setting) → IsSetting setting → (events : List Event) (c : ℕ) (call : Call) (r : Reply)
    → IsRun setting (Decides c call r ∷ events) → (x : Part)
    → SamePart (after setting events) (after setting (Decides c call r ∷ events)) x
    ⊎ (OwnBy call (after setting events) c x ⊎ IsUnderOne call (after setting events) c x)
