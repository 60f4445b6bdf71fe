-- Chains said a second time, by what each call named: a capability has a chain if it is one of the start, or was put by a call that
-- named a capability which has the rest of the chain.
use Rattle.kernel_invariant.specs.kernel_rules.specs as low
use Rattle.std.specs.Prelude.{◌≡◌, ◌+◌, ◌∷◌, ◌++◌}
use low.{ℕ, true, List, [], Some, IsTrue, Capability, cap_of, kept, part_of, has_rights, right_to_use, right_to_copy}
use low.{Setting, IsSetting, Kind, Make, Call, Copy, Gate, Part, Value, Holds, comp_in, plain_cap, start_cap, any, only, to_copy, to_part}
use low.{to_use, found, Found, named, has_frame, has_frames, Event, Decides, after, IsRun}
use Rattle.kernel_invariant.specs.spk_nums.specs.declared.calls.Call.TheVariants.{Make as make_call}
use low.State.{State}
use Rattle.origin_rules.specs.{declared.chains.Step.Step, declared.chains.Step.TheVariants.Copied, declared.chains.Step.TheVariants.Made}
use Rattle.origin_rules.specs.{declared.chains.Step.TheVariants.Gated, declared.chains.Step.TheVariants.Parted}
use Rattle.origin_rules.specs.{declared.chains.ChainLink.ChainLink, Chains.decided, Chains.origin_of, Chains.is_own}
use Rattle.kernel_invariant.specs.spk_nums.specs.declared.kinds.Kind.TheVariants as kind
use Rattle.kernel_invariant.specs.spk_nums.specs.declared.calls.Make.TheVariants as make
use Rattle.kernel_invariant.specs.spk_nums.specs.declared.replies.Reply.TheVariants as reply

-- The kind of capability to what a `make` makes.
abbrev pub kind_of : Make → Kind
kind_of make.Table = kind.Table
kind_of make.Leaf = kind.Leaf
kind_of make.Pages = kind.Pages
kind_of make.Pleaf = kind.Pleaf
kind_of (make.Thread comp) = kind.Thread
kind_of (make.Tcap sched quality) = kind.Tcap
kind_of (make.Comp table pages live) = kind.Comp

-- A copy is its parent with those of its rights that the call keeps, and the parent may be copied.
pub record IsCopy (s : State) (c a rights : ℕ) (parent k : Capability) : Type 0 where
  pub names : named s c a (to_copy any) ≡ Found parent
  pub is : k ≡ kept parent rights

-- What is made is an object in a frame of the parent, a range with the right to use it.
pub record IsMade (s : State) (c r f : ℕ) (what : Make) (parent k : Capability) : Type 0 where
  pub names : named s c r (to_use (only kind.Range)) ≡ Found parent
  pub frame : has_frame (found parent) f ≡ true
  pub is : k ≡ plain_cap (kind_of what) f

-- A gate leads to its parent's component, which the parent gives the right to use.
pub record IsGate (s : State) (c comp : ℕ) (parent k : Capability) : Type 0 where
  pub names : named s c comp (to_use (only kind.Comp)) ≡ Found parent
  pub is : k ≡ cap_of kind.Gate parent.frame (comp_in (s.frame parent.frame)).epoch

-- A part is the range of frames that its parent has, a range which may be copied and used, with its rights.
pub record IsPart (s : State) (c r f n : ℕ) (parent k : Capability) : Type 0 where
  pub names : named s c r (to_part (only kind.Range)) ≡ Found parent
  pub frames : has_frames (found parent) f n ≡ true
  pub is : k ≡ part_of parent f n

-- A call of core c in state s puts capability k in this way, from this parent.
abbrev pub Gives : State → ℕ → Call → Step → Capability → Capability → Type 0
Gives s c (Copy a t b rights) Copied parent k = IsCopy s c a rights.0 parent k
Gives s c (make_call what r f t b) Made parent k = IsMade s c r f what parent k
Gives s c (Gate comp t b) Gated parent k = IsGate s c comp parent k
Gives s c (Part r f n t b) Parted parent k = IsPart s c r f n parent k
Gives s c call what parent k = ⊥

-- A decision of the run with this number put capability k, from a parent of which this was so when it was decided.
pub record IsPut (setting : Setting) (events : List Event) (x : ChainLink) (Parent : List Event → Capability → Type 0) (k : Capability)
    : Type 0 where
  pub before : List Event
  pub later : List Event
  pub core : ℕ
  pub call : Call
  pub value : Value
  pub is_part : events ≡ later ++ (Decides core call (reply.Ok value) ∷ before)
  pub number : x.decision ≡ decided before + 1
  pub parent : Capability
  pub gives : Gives (after setting before) core call x.what parent k
  pub chain : Parent before parent

-- After these events capability k has the chain of these links, back to the capability of the start at this index.
abbrev pub HasChain : Setting → List ChainLink → ℕ → List Event → Capability → Type 0
HasChain setting [] start events k = start_cap setting start ≡ Some k
HasChain setting (x ∷ xs) start events k = IsPut setting events x (HasChain setting xs start) k

-- Each capability that a place holds after a run has the chain of that place.
abbrev pub ChainsAreReal : Type 0
ChainsAreReal = (setting : Setting) → IsSetting setting → (events : List Event) → IsRun setting events
    → (f i : ℕ) (k : Capability) → (after setting events).place f i ≡ Holds k → is_own k.kind ≡ true
    → HasChain setting (origin_of setting events f i).links (origin_of setting events f i).start events k

-- A copy has its parent's kind, frame and number, and no right that its parent lacks; and its parent has the right to copy it.
pub record FallsFrom (parent k : Capability) : Type 0 where
  pub kind : k.kind ≡ parent.kind
  pub frame : k.frame ≡ parent.frame
  pub arg : k.arg ≡ parent.arg
  pub rights : (needs : ℕ) → IsTrue (has_rights k.rights needs) → IsTrue (has_rights parent.rights needs)
  pub may_copy : IsTrue (has_rights parent.rights right_to_copy)

-- What is made, and a gate, have a parent with the right to use it: a range, and a component.
pub record UsesRange (parent : Capability) : Type 0 where
  pub kind : parent.kind ≡ kind.Range
  pub may_use : IsTrue (has_rights parent.rights right_to_use)

pub record UsesComp (parent k : Capability) : Type 0 where
  pub kind : parent.kind ≡ kind.Comp
  pub may_use : IsTrue (has_rights parent.rights right_to_use)
  pub frame : k.frame ≡ parent.frame

-- A part and its parent are ranges, with the same rights, among them those to copy and to use; and the parent has the part's frames.
pub record IsPartOf (parent k : Capability) : Type 0 where
  pub parent_kind : parent.kind ≡ kind.Range
  pub kind : k.kind ≡ kind.Range
  pub frames : has_frames (found parent) k.frame k.arg ≡ true
  pub rights : k.rights ≡ parent.rights
  pub may_copy : IsTrue (has_rights parent.rights right_to_copy)
  pub may_use : IsTrue (has_rights parent.rights right_to_use)

abbrev pub Falls : Step → Capability → Capability → Type 0
Falls Copied parent k = FallsFrom parent k
Falls Made parent k = UsesRange parent
Falls Gated parent k = UsesComp parent k
Falls Parted parent k = IsPartOf parent k

-- So it is of each link, whatever the state.
abbrev pub RightsOnlyFall : Type 0
RightsOnlyFall = (s : State) (c : ℕ) (call : Call) (what : Step) (parent k : Capability) → Gives s c call what parent k → Falls what parent k
