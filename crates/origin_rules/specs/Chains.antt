-- Where capabilities come from: what each decision puts, and the chain of what a place holds.
use Rattle.kernel_invariant.specs as low
use Rattle.std.specs.Prelude.{◌+◌, ◌&&◌, ◌==◌, if◌then◌else◌, ◌∷◌}
use low.kernel_rules.specs.{ℕ, Bool, true, false, ltb as nat_lt, List, [], Option, Some, None}
use low.kernel_rules.specs.{option_map, Capability, Setting, Kind, Call, Copy, Gate, Part, Reply, Place, Free, Holds, Quiescing, Slot}
use low.kernel_rules.specs.{Under, only, to_use, own, reached, named, name_of, Event, Enters, Decides, Returns, after}
use Rattle.origin_rules.specs.declared.chains.Step.TheVariants.{Copied, Made, Gated, Parted}
use low.{spk_nums.specs.declared.calls.Call.TheVariants.Make as make_call, kernel_rules.specs.State.State}
use Rattle.{origin_rules.specs.declared.chains.Step.Step, origin_rules.specs.declared.chains.ChainLink.ChainLink}

-- Where the capability of a place came from: the decisions that put it, its parent, the parent of that and so on, the newest first, and
-- the index of the capability of the start at which they begin.
pub record Origin : Type 0 where
  pub links : List ChainLink
  pub start : ℕ

-- A capability with its origin.
pub record ChainValue : Type 0 where
  pub cap : Capability
  pub links : List ChainLink
  pub start : ℕ

-- A capability that a call puts: the slot, how it is put, and the slot where its parent stands.
pub record Put : Type 0 where
  pub at : Slot
  pub what : Step
  pub parent : Slot

-- The slot to which a number leads core c, and that of a number of a table that it names.
abbrev pub slot_named : State → ℕ → ℕ → Option Slot
slot_named s c n = reached s c (own s c n)

abbrev pub slot_under : State → ℕ → ℕ → ℕ → Option Slot
slot_under s c t n = reached s c (Under (name_of (named s c t (to_use (only Kind.Table)))) n)

-- A capability is put at a slot, from a parent.
abbrev pub put_from : Step → Option Slot → Option Slot → Option Put
put_from what (Some parent) (Some at) = Some record { at = at; what = what; parent = parent }
put_from what (Some parent) None = None
put_from what None at = None

-- What a call of core c puts that is carried out in state s: a copy puts one from the capability A, a `make` and a `part` from the range
-- R, and a `gate` from the component C; each at the place B of the table T.
abbrev pub puts : State → ℕ → Call → Option Put
puts s c (Copy a t b rights) = put_from Copied (slot_named s c a) (slot_under s c t b)
puts s c (make_call what r f t b) = put_from Made (slot_named s c r) (slot_under s c t b)
puts s c (Gate k t b) = put_from Gated (slot_named s c k) (slot_under s c t b)
puts s c (Part r f n t b) = put_from Parted (slot_named s c r) (slot_under s c t b)
puts s c call = None

-- A refused call puts nothing.
abbrev pub puts_by : State → ℕ → Call → Reply → Option Put
puts_by s c call (Reply.Ok v) = puts s c call
puts_by s c call _ = None

-- Decision d puts a capability: its origin is the decision, and after it that of its parent as this stood before. All other places keep
-- theirs.
abbrev pub with_put : ℕ → Option Put → (ℕ → ℕ → Origin) → ℕ → ℕ → Origin
with_put d None origin f i = origin f i
with_put d (Some p) origin f i =
    if f == p.at.node && i == p.at.index then record {
      links = record { decision = d; what = p.what } ∷ (origin p.parent.node p.parent.index).links;
      start = (origin p.parent.node p.parent.index).start;
    } else origin f i

-- How many calls were decided.
abbrev pub decided : List Event → ℕ
decided [] = 0
decided (Enters c call ∷ events) = decided events
decided (Decides c call r ∷ events) = decided events + 1
decided (Returns c ∷ events) = decided events

-- The origin of what was put last at place i of frame f. At the start it is the capability itself.
abbrev pub origin_of : Setting → List Event → ℕ → ℕ → Origin
origin_of setting [] f i = record { links = []; start = i }
origin_of setting (Enters c call ∷ events) f i = origin_of setting events f i
origin_of setting (Decides c call r ∷ events) f i =
    with_put (decided events + 1) (puts_by (after setting events) c call r) (origin_of setting events) f i
origin_of setting (Returns c ∷ events) f i = origin_of setting events f i

-- Whether a kind is that of a capability that cores can name: links and pages are none.
abbrev pub is_own : Kind → Bool
is_own Kind.Link = false
is_own Kind.Page = false
is_own _ = true

-- The capability that a place holds, if it holds one.
abbrev pub own_cap : Place → Option Capability
own_cap Free = None
own_cap (Holds k) = if is_own k.kind then Some k else None
own_cap (Quiescing k) = None

-- That of a place of the machine.
abbrev pub held_at : State → ℕ → ℕ → Option Capability
held_at s f i = if nat_lt f s.limits.frames && nat_lt i 64 then own_cap (s.place f i) else None

abbrev pub with_origin : Origin → Capability → ChainValue
with_origin o k = record { cap = k; links = o.links; start = o.start }

-- The chain of what a place holds after these events: none where it holds no capability.
abbrev pub chain_of : Setting → List Event → ℕ → ℕ → Option ChainValue
chain_of setting events f i = option_map (with_origin (origin_of setting events f i)) (held_at (after setting events) f i)
