-- The rule of a call: the capabilities that it names, its target, its own causes of refusal in order, and what it does.
-- A rule is judged once in the order written, for what is carried out: no cause stands, in the exact sets. It is judged once
-- more widely, for what may be refused: a refusal may come where its own cause stands, whatever else does.
use Rattle.std.specs.Prelude.{◌≡◌, ◌⊎◌, ℕ, Bool, nat_lt, nat_le, if◌then◌else◌, List, [], ◌∷◌, Option, Some, None, IsSomeAnd, is_some}
use Rattle.std.specs.Prelude.{IsTrue, IsFalse}
use Rattle.spk_nums.specs.{Capability.Capability, Rights.has_rights, declared.replies.Value.Value, declared.replies.Reply.Reply}
use Rattle.kernel_rules.specs.State.{Place, Free, Holds, Quiescing, Thing, PlaceOf, State}
use Rattle.kernel_rules.specs.Access.{Slot, Named, found, not_found, root_at, Want, Target, Under, place_at, held_in, usable, reached}
use Rattle.kernel_rules.specs.Access.{has_no_slot, root_slot, holds_link, own}
use Rattle.kernel_rules.specs.GracePeriods.{lowest, other_waiting, quiescing_by, unflushed_by, MayWait, MayBeUnflushed}
use Rattle.kernel_rules.specs.Edits.{Edit, after_edits, takes_all, begins_all}

-- What a call does that is carried out: the value that it answers, the state that it leaves but for the grace periods that it
-- begins, the frames to which it takes a reference, and the things whose grace periods it begins.
pub record Change : Type 0 where
  pub value : Value
  pub next : State
  pub takes : List ℕ
  pub begins : List Thing

-- The change that core c makes by a list of edits, with the value that it answers.
abbrev pub does : ℕ → State → Value → List Edit → Change
does c s v es = record { value = v; next = after_edits c s es; takes = takes_all c s es; begins = begins_all c s es }

-- A cause of refusal of a call's own: a condition, with its reply; a thing for which another core still waits; a thing that a
-- core has not flushed.
pub data Cause : Type 0 where
  When : Bool → Reply → Cause
  WaitedFor : Thing → Cause
  Unflushed : Thing → Cause

-- A rule: a capability of this number, such as is wanted; a target that is to be free; a target that is to be held; a page
-- that is to be mapped, by its root; and, after them, the call's own causes in order, the value that it answers, and its edits.
pub data Rule : Type 0 where
  Name : ℕ → Want → (Named → Rule) → Rule
  Vacant : Target → (Slot → Rule) → Rule
  Held : Target → (Slot → Capability → Rule) → Rule
  Mapped : ℕ → ℕ → (Capability → Rule) → Rule
  Does : List Cause → Value → List Edit → Rule

-- What is judged is refused, or found.
pub data Judged (A : Type 0) : Type 0 where
  Refused : Reply → Judged A
  Found : A → Judged A

-- What follows on what is found.
abbrev pub and_then : {A B : Type 0} → Judged A → (A → Judged B) → Judged B
and_then (Refused r) f = Refused r
and_then (Found x) f = f x

-- What is found unless there is a refusal.
abbrev pub unless : {A : Type 0} → Option Reply → A → Judged A
unless None x = Found x
unless (Some r) x = Refused r

-- What is found, or else this refusal.
abbrev pub or_refuse : {A : Type 0} → Option A → Reply → Judged A
or_refuse None r = Refused r
or_refuse (Some x) r = Found x

-- A capability with the rights that are needed, or `no-right`.
abbrev pub with_rights : ℕ → Capability → Judged Capability
with_rights needs k = if has_rights k.rights needs then Found k else Refused Reply.NoRight

-- A capability of a wanted kind with the rights that are needed; or `wrong-cap`, or else `no-right`.
abbrev pub of_kind : Want → Capability → Judged Capability
of_kind want k = if want.kinds k.kind then with_rights want.needs k else Refused Reply.WrongCap

-- The capability that core c names: it reaches a slot, may use what is there, and that is such as is wanted.
abbrev pub named : State → ℕ → ℕ → Want → Judged Capability
named s c n want =
    and_then (or_refuse (reached s c (own s c n)) Reply.NoSlot) λ at.
    and_then (or_refuse (usable s c at) Reply.Empty) λ k.
    of_kind want k

-- The first of two refusals.
abbrev pub first_of : Option Reply → Option Reply → Option Reply
first_of None r = r
first_of (Some r) _ = Some r

-- Why core c may not take a thing again: another core still waits for it.
abbrev pub waits_of : State → ℕ → Thing → Option Reply
waits_of s c x = quiescing_by (other_waiting s c x)

-- Why nobody may take a thing again: a core, here the lowest, has not flushed since.
abbrev pub flushes_of : State → Thing → Option Reply
flushes_of s x = unflushed_by (lowest s (s.grace x).unflushed)

-- Why core c may not fill a place: it is held, or it is quiescing and its grace period is not over for c.
abbrev pub not_vacant : State → ℕ → Thing → Place → Option Reply
not_vacant s c x Free = None
not_vacant s c x (Holds k) = Some Reply.Occupied
not_vacant s c x (Quiescing k) = first_of (waits_of s c x) (flushes_of s x)

-- The target that core c may fill.
abbrev pub vacant : State → ℕ → Target → Judged Slot
vacant s c target =
    and_then (or_refuse (reached s c target) Reply.NoSlot) λ at.
    unless (not_vacant s c (PlaceOf at.node at.index) (place_at s at)) at

-- What the target that core c reaches holds.
abbrev pub held : State → ℕ → Target → Judged (Slot × Capability)
held s c target =
    and_then (or_refuse (reached s c target) Reply.NoSlot) λ at.
    and_then (or_refuse (held_in (place_at s at)) Reply.Empty) λ k.
    Found (at, k)

-- The mapping of a page, by the root of its page table: what its place holds.
abbrev pub mapped : State → ℕ → ℕ → ℕ → Judged Capability
mapped s c table v =
    and_then (unless (if nat_lt 4095 v then Some Reply.NoSlot else None) v) λ v.
    and_then (or_refuse (reached s c (Under (root_at table) v)) Reply.Fault) λ at.
    or_refuse (held_in (place_at s at)) Reply.Fault

-- The refusal of a cause that stands.
abbrev pub refusal_of : State → ℕ → Cause → Option Reply
refusal_of s c (When condition r) = if condition then Some r else None
refusal_of s c (WaitedFor x) = waits_of s c x
refusal_of s c (Unflushed x) = flushes_of s x

-- The refusal of the first cause that stands.
abbrev pub first_cause : State → ℕ → List Cause → Option Reply
first_cause s c [] = None
first_cause s c (cause ∷ causes) = first_of (refusal_of s c cause) (first_cause s c causes)

-- The outcome of a rule: the first refusal in its order, or the change that its edits make.
abbrev pub outcome : State → ℕ → Rule → Judged Change
outcome s c (Name n want rest) = and_then (named s c n want) λ k. outcome s c (rest (found k))
outcome s c (Vacant target rest) = and_then (vacant s c target) λ at. outcome s c (rest at)
outcome s c (Held target rest) = and_then (held s c target) λ p. outcome s c (rest p.0 p.1)
outcome s c (Mapped table v rest) = and_then (mapped s c table v) λ k. outcome s c (rest k)
outcome s c (Does causes value edits) = unless (first_cause s c causes) (does c s value edits)

-- P holds of what is found.
abbrev pub IsFoundAnd : {A : Type 0} → Judged A → (A → Type 0) → Type 0
IsFoundAnd (Refused r) P = ⊥
IsFoundAnd (Found x) P = P x

-- Core c reaches a slot whose place holds nothing.
abbrev pub ReachesNone : State → ℕ → Target → Type 0
ReachesNone s c target = IsSomeAnd (reached s c target) λ at. IsFalse (is_some (held_in (place_at s at)))

-- Core c reaches a slot whose place holds something.
abbrev pub ReachesHeld : State → ℕ → Target → Type 0
ReachesHeld s c target = IsSomeAnd (reached s c target) λ at. IsTrue (is_some (held_in (place_at s at)))

-- Core c may use a capability there of a kind that is not wanted.
abbrev pub ReachesOther : State → ℕ → Target → Want → Type 0
ReachesOther s c target want =
    IsSomeAnd (reached s c target) λ at. IsSomeAnd (usable s c at) λ k. IsFalse (want.kinds k.kind)

-- A capability of a wanted kind lacks a right that is needed.
abbrev pub Lacks : Want → Capability → Type 0
Lacks want k = IsTrue (want.kinds k.kind) × IsFalse (has_rights k.rights want.needs)

-- Core c may use a capability there of a wanted kind that lacks a right that is needed.
abbrev pub ReachesLacking : State → ℕ → Target → Want → Type 0
ReachesLacking s c target want = IsSomeAnd (reached s c target) λ at. IsSomeAnd (usable s c at) (Lacks want)

-- A name may be refused: it has no slot, its place holds nothing, its capability is of another kind, or lacks a right that is needed.
abbrev pub NameMay : State → ℕ → ℕ → Want → Reply → Type 0
NameMay s c n want Reply.NoSlot = IsTrue (has_no_slot s (own s c n))
NameMay s c n want Reply.Empty = ReachesNone s c (own s c n)
NameMay s c n want Reply.WrongCap = ReachesOther s c (own s c n) want
NameMay s c n want Reply.NoRight = ReachesLacking s c (own s c n) want
NameMay s c n want _ = ⊥

-- A target that is to be free may be refused: it has no slot, its place holds something, or its grace period may not be over.
abbrev pub VacantMay : State → ℕ → Target → Reply → Type 0
VacantMay s c target Reply.NoSlot = IsTrue (has_no_slot s target)
VacantMay s c target Reply.Occupied = ReachesHeld s c target
VacantMay s c target (Reply.Quiescing e) = IsSomeAnd (reached s c target) λ at. MayWait s c (PlaceOf at.node at.index) e
VacantMay s c target (Reply.Unflushed e) = IsSomeAnd (reached s c target) λ at. MayBeUnflushed s (PlaceOf at.node at.index) e
VacantMay s c target _ = ⊥

-- A target that is to be held may be refused: it has no slot, or its place holds nothing.
abbrev pub HeldMay : State → ℕ → Target → Reply → Type 0
HeldMay s c target Reply.NoSlot = IsTrue (has_no_slot s target)
HeldMay s c target Reply.Empty = ReachesNone s c target
HeldMay s c target _ = ⊥

-- A page may be refused: its number is past 4,095; or its root entry holds no link, or its place holds no mapping.
abbrev pub MappedMay : State → ℕ → ℕ → ℕ → Reply → Type 0
MappedMay s c table v Reply.NoSlot = IsTrue (nat_lt 4095 v)
MappedMay s c table v Reply.Fault =
    IsTrue (nat_le v 4095) × (IsFalse (holds_link (place_at s (root_slot table v))) ⊎ ReachesNone s c (Under (root_at table) v))
MappedMay s c table v _ = ⊥

-- Another core may still be in the grace period of a thing.
abbrev pub WaitedMay : State → ℕ → Thing → Reply → Type 0
WaitedMay s c x (Reply.Quiescing e) = MayWait s c x e
WaitedMay s c x _ = ⊥

-- A core may not have flushed in the grace period of a thing.
abbrev pub UnflushedMay : State → Thing → Reply → Type 0
UnflushedMay s x (Reply.Unflushed e) = MayBeUnflushed s x e
UnflushedMay s x _ = ⊥

-- A cause may stand with this reply.
abbrev pub CauseMay : State → ℕ → Cause → Reply → Type 0
CauseMay s c (When condition cause) r = IsTrue condition × (r ≡ cause)
CauseMay s c (WaitedFor x) r = WaitedMay s c x r
CauseMay s c (Unflushed x) r = UnflushedMay s x r

-- One of the causes may stand with this reply.
abbrev pub OneMay : State → ℕ → List Cause → Reply → Type 0
OneMay s c [] r = ⊥
OneMay s c (cause ∷ causes) r = CauseMay s c cause r ⊎ OneMay s c causes r

-- What a name has led to.
abbrev pub name_of : Judged Capability → Named
name_of (Refused r) = not_found
name_of (Found k) = found k

-- The slot that was reached.
abbrev pub slot_of : Option Slot → Slot
slot_of None = record { node = 0; index = 0 }
slot_of (Some at) = at

-- A rule may be refused with this reply: at a name, at the target, or by an own cause, whichever stands. A cause that is about
-- what a name leads to stands only where that is found.
abbrev pub RuleMay : State → ℕ → Rule → Reply → Type 0
RuleMay s c (Name n want rest) r = NameMay s c n want r ⊎ RuleMay s c (rest (name_of (named s c n want))) r
RuleMay s c (Vacant target rest) r = VacantMay s c target r ⊎ RuleMay s c (rest (slot_of (reached s c target))) r
RuleMay s c (Held target rest) r = HeldMay s c target r ⊎ IsFoundAnd (held s c target) λ p. RuleMay s c (rest p.0 p.1) r
RuleMay s c (Mapped table v rest) r = MappedMay s c table v r ⊎ IsFoundAnd (mapped s c table v) λ k. RuleMay s c (rest k) r
RuleMay s c (Does causes value edits) r = OneMay s c causes r

-- A rule may be carried out with this value.
abbrev pub RuleAnswers : State → ℕ → Rule → Value → Type 0
RuleAnswers s c rule v = IsFoundAnd (outcome s c rule) λ change. change.value ≡ v
