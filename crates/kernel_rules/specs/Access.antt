-- Resolving a name, and the access of calls in progress: what was removed still serves the calls that wait for it.
use Rattle.std.specs.Prelude.{ℕ, ◌/◌, ◌%◌, Bool, true, false, not, ◌&&◌, ◌||◌, ◌==◌, nat_lt, nat_le, if◌then◌else◌, Option, Some, None}
use Rattle.spk_nums.specs.{Capability.Capability, Rights.both, Rights.neither, Rights.right_to_copy, Rights.right_to_use}
use Rattle.spk_nums.specs.{declared.kinds.Kind.Kind}
use Rattle.kernel_rules.specs.State.{Place, Free, Holds, Quiescing, PlaceOf, State, comp_of}

-- A place in a node: the node's frame, and the index in it.
pub record Slot : Type 0 where
  pub node : ℕ
  pub index : ℕ

-- What a name leads to: whether a capability was found, and its kind, frame, number and rights. Of what was not found nothing is
-- asked.
pub record Named : Type 0 where
  pub found : Bool
  pub kind : Kind
  pub frame : ℕ
  pub arg : ℕ
  pub rights : ℕ

-- The name led to this capability.
abbrev pub found : Capability → Named
found k = record { found = true; kind = k.kind; frame = k.frame; arg = k.arg; rights = k.rights }

-- The name led to no capability such as was wanted.
abbrev pub not_found : Named
not_found = record { found = false; kind = Kind.Range; frame = 0; arg = 0; rights = both }

-- The capability that was found.
abbrev pub capability : Named → Capability
capability k = record { kind = k.kind; frame = k.frame; arg = k.arg; rights = k.rights }

-- A root that is known by its frame.
abbrev pub root_at : ℕ → Named
root_at f = record { found = true; kind = Kind.Table; frame = f; arg = 0; rights = both }

-- Where a place is asked for: under a number of a radix table, by the name of the table's root, or at an entry of that root.
pub data Target : Type 0 where
  Under : Named → ℕ → Target
  InRoot : Named → ℕ → Target

-- The place at a slot.
abbrev pub place_at : State → Slot → Place
place_at s at = s.place at.node at.index

-- The number of a kind, in their order.
abbrev pub kind_number : Kind → ℕ
kind_number Kind.Range = 0
kind_number Kind.Table = 1
kind_number Kind.Leaf = 2
kind_number Kind.Pages = 3
kind_number Kind.Pleaf = 4
kind_number Kind.Comp = 5
kind_number Kind.Gate = 6
kind_number Kind.Thread = 7
kind_number Kind.Tcap = 8
kind_number Kind.Link = 9
kind_number Kind.Page = 10

-- Any kind is wanted.
abbrev pub any : Kind → Bool
any k = true

-- This kind alone is wanted.
abbrev pub only : Kind → Kind → Bool
only wanted k = kind_number k == kind_number wanted

-- The root of a table of capabilities or of pages is wanted.
abbrev pub root : Kind → Bool
root k = only Kind.Table k || only Kind.Pages k

-- What a name wants: the kinds of capability of which it is to lead to one, and the rights that it needs of that one.
pub record Want : Type 0 where
  pub kinds : Kind → Bool
  pub needs : ℕ

-- These kinds are wanted: of what is only looked at, no right is needed; of what is copied, the right to copy it; of all else, the
-- right to use it.
abbrev pub to_look : (Kind → Bool) → Want
to_look kinds = record { kinds = kinds; needs = neither }

abbrev pub to_copy : (Kind → Bool) → Want
to_copy kinds = record { kinds = kinds; needs = right_to_copy }

abbrev pub to_use : (Kind → Bool) → Want
to_use kinds = record { kinds = kinds; needs = right_to_use }

-- What a place holds.
abbrev pub held_in : Place → Option Capability
held_in Free = None
held_in (Holds k) = Some k
held_in (Quiescing k) = None

-- Of a range of which a part is handed out, both rights are needed.
abbrev pub to_part : (Kind → Bool) → Want
to_part kinds = record { kinds = kinds; needs = both }

-- What a core may use of a place: what it holds; and what it held, where the core waits in its grace period.
abbrev pub usable_in : Place → Bool → Option Capability
usable_in Free waits = None
usable_in (Holds k) waits = Some k
usable_in (Quiescing k) waits = if waits then Some k else None

-- What core c may use at a slot.
abbrev pub usable : State → ℕ → Slot → Option Capability
usable s c at = usable_in (place_at s at) ((s.grace (PlaceOf at.node at.index)).waits c)

-- The leaf to which a capability links.
abbrev pub linked : Option Capability → Option ℕ
linked None = None
linked (Some k) = if only Kind.Link k.kind then Some k.frame else None

-- The slot of an index in a leaf, if there is a leaf.
abbrev pub slot_in : Option ℕ → ℕ → Option Slot
slot_in None i = None
slot_in (Some leaf) i = Some record { node = leaf; index = i }

-- The root entry that leads to a number: its high bits choose the entry, and its low 6 bits the place in the leaf.
abbrev pub root_slot : ℕ → ℕ → Slot
root_slot table n = record { node = table; index = n / 64 }

-- The slot that core c reaches, if the root was found: under a number up to 4,095 by a link that the core may use, or at a root entry up to
-- 63.
abbrev pub reached : State → ℕ → Target → Option Slot
reached s c (Under table n) = if table.found
    && nat_le n 4095 then slot_in (linked (usable s c (root_slot table.frame n))) (n % 64) else None
reached s c (InRoot table i) = if table.found && nat_le i 63 then Some record { node = table.frame; index = i } else None

-- Whether a place holds a link.
abbrev pub holds_link : Place → Bool
holds_link Free = false
holds_link (Holds k) = only Kind.Link k.kind
holds_link (Quiescing k) = false

-- Whether a target has no slot: its number is too large, or the root entry holds no link.
abbrev pub has_no_slot : State → Target → Bool
has_no_slot s (Under table n) = nat_lt 4095 n || (table.found && not (holds_link (place_at s (root_slot table.frame n))))
has_no_slot s (InRoot table i) = nat_lt 63 i

-- The target of a capability number of core c: it is looked up in the table of the component that the core works in.
abbrev pub own : State → ℕ → ℕ → Target
own s c n = Under (root_at (comp_of s c).table) n
