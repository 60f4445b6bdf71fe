-- Confinement: what a core puts in a part of a run is covered by what it reached there and had not put itself.
use Rattle.std.specs.Prelude.{◌≡◌, ◌≢◌, ◌⊎◌, ◌+◌, ◌≤◌, ◌∷◌, ◌++◌}
use Rattle.call_names.specs.kernel_rules.specs.{ℕ, true, List, [], IsTrue, Capability, has_rights}
use Rattle.call_names.specs.kernel_rules.specs.{right_to_use, Setting, IsSetting, Call, Value, Holds, Want, found, Found, named, has_frame}
use Rattle.call_names.specs.kernel_rules.specs.{rule_of, Event, Decides, after, IsRun, Kind, Reply}
use Rattle.origin_rules.specs.{decided, origin_of, is_own, HasChain}
use Rattle.{call_names.specs.Names.IsName, origin_rules.specs.declared.chains.ChainLink.ChainLink}

-- A copy of r, or a copy of a copy and so on: the same but for rights, of which it has none that r lacks.
pub record IsWithin (r k : Capability) : Type 0 where
  pub kind : k.kind ≡ r.kind
  pub frame : k.frame ≡ r.frame
  pub arg : k.arg ≡ r.arg
  pub rights : (needs : ℕ) → IsTrue (has_rights k.rights needs) → IsTrue (has_rights r.rights needs)

-- A gate to the component of r, which may be used.
pub record IsGateOf (r k : Capability) : Type 0 where
  pub is_comp : r.kind ≡ Kind.Comp
  pub may_use : IsTrue (has_rights r.rights right_to_use)
  pub is_gate : k.kind ≡ Kind.Gate
  pub frame : k.frame ≡ r.frame

-- A capability to what was made in a frame of the range r, which may be used; and no range.
pub record IsMadeIn (r k : Capability) : Type 0 where
  pub is_range : r.kind ≡ Kind.Range
  pub may_use : IsTrue (has_rights r.rights right_to_use)
  pub other : k.kind ≢ Kind.Range
  pub frame : has_frame (found r) k.frame ≡ true

-- A range whose frames the range r has, with no right that r lacks.
pub record IsPartOf (r k : Capability) : Type 0 where
  pub is_range : r.kind ≡ Kind.Range
  pub kind : k.kind ≡ Kind.Range
  pub frames : (f : ℕ) → has_frame (found k) f ≡ true → has_frame (found r) f ≡ true
  pub rights : (needs : ℕ) → IsTrue (has_rights k.rights needs) → IsTrue (has_rights r.rights needs)

-- What r covers.
abbrev pub Covers : Capability → Capability → Type 0
Covers r k = IsWithin r k ⊎ (IsGateOf r k ⊎ (IsMadeIn r k ⊎ IsPartOf r k))

-- A decision of another core than c is this one of the run.
pub record IsOfOther (c : ℕ) (events : List Event) (x : ChainLink) : Type 0 where
  pub before : List Event
  pub later : List Event
  pub core : ℕ
  pub call : Call
  pub value : Value
  pub is_part : events ≡ later ++ (Decides core call (Reply.Ok value) ∷ before)
  pub number : x.decision ≡ decided before + 1
  pub other : core ≢ c

-- A chain whose newest link core c has not made since `before`: the capability was there at the start, or was put before, or by another
-- core.
abbrev pub IsForeign : List Event → ℕ → List Event → List ChainLink → Type 0
IsForeign before c events [] = Unit {0}
IsForeign before c events (x ∷ xs) = (x.decision ≤ decided before) ⊎ IsOfOther c events x

-- Since `before` core c has carried out a call, one of whose names led it to capability r when it was decided, and r it had not put since.
pub record HasReached (setting : Setting) (before : List Event) (c : ℕ) (events : List Event) (r : Capability) : Type 0 where
  pub moment : List Event
  pub since : List Event
  pub later : List Event
  pub call : Call
  pub value : Value
  pub is_part : events ≡ later ++ (Decides c call (Reply.Ok value) ∷ moment)
  pub is_since : moment ≡ since ++ before
  pub number : ℕ
  pub want : Want
  pub is_name : IsName (after setting moment) c (rule_of (after setting moment) c call) number want
  pub names : named (after setting moment) c number want ≡ Found r
  pub links : List ChainLink
  pub start : ℕ
  pub chain : HasChain setting links start moment r
  pub foreign : IsForeign before c moment links

-- A capability is covered by one that core c has reached so.
pub record IsCovered (setting : Setting) (before : List Event) (c : ℕ) (events : List Event) (k : Capability) : Type 0 where
  pub root : Capability
  pub reached : HasReached setting before c events root
  pub covers : Covers root k

-- After every run, of whatever part of it, each capability that a place holds is foreign to core c, or is covered by one that is and that
-- core c has reached.
abbrev pub CoresAreConfined : Type 0
CoresAreConfined = (setting : Setting) → IsSetting setting → (before later : List Event) → IsRun setting (later ++ before)
    → (c f i : ℕ) (k : Capability) → (after setting (later ++ before)).place f i ≡ Holds k → is_own k.kind ≡ true
    → IsForeign before c (later ++ before) (origin_of setting (later ++ before) f i).links
    ⊎ IsCovered setting before c (later ++ before) k
