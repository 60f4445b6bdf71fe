-- The cause of each refusal, by its reply: what must be so where a call is refused with it. What a call names is read off its rule; its own
-- causes are said apart from it.
use Rattle.found_stays.specs.kernel_rules.specs as low
use Rattle.std.specs.Prelude.{◌≡◌, ◌≢◌, ◌⊎◌, ◌+◌, ◌<◌, ◌≤◌, ◌&&◌, if◌then◌else◌}
use low.{ℕ, Bool, List, [], length, Option, Some, None, is_some, IsTrue, IsFalse}
use low.{IsSomeAnd, Capability, has_rights, covers, merged, Kind, Make, Call, Retype, Map, Touch}
use low.{Flush, Gate, Kill, Ret, Switch, Tick, Transfer, Delegate, Test, Part, Replenish, Reply, TcapFields, Blank, Untyped, User, Kernel}
use low.{Live, Thing, PlaceOf, FrameOf, NumberOf, comp_in, thread_in, tcap_in, thread_of, comp_of, outstanding, refs, Slot, Named, found}
use low.{not_found, root_at, Want, to_part, to_use, Target, Under, place_at, held_in, usable, reached}
use low.{has_no_slot, root_slot, holds_link, only, own, MayWait, MayBeUnflushed, is_live, epoch_of, translation_of}
use Rattle.found_stays.specs.spk_nums.specs.declared.calls.Call.TheVariants.{Make as make_call, Call as call_gate}
use low.Rows.{Asked, OneIs, Aim, names_at, aims_at, led, free_in, full_in}
use low.{FrameKind, State.State, CallRelation.rule_of}

-- What core c may use at a slot that it reaches.
abbrev pub used_at : State → ℕ → Option Slot → Option Capability
used_at s c None = None
used_at s c (Some at) = usable s c at

-- What number n of core c leads to.
abbrev pub leads : State → ℕ → ℕ → Option Capability
leads s c n = used_at s c (reached s c (own s c n))

-- It is found where it leads to a capability of a wanted kind that has the rights needed.
abbrev pub as_wanted : Want → Option Capability → Named
as_wanted want None = not_found
as_wanted want (Some k) = if want.kinds k.kind && has_rights k.rights want.needs then found k else not_found

-- What a number leads to that is named to be used.
abbrev pub leads_as : State → ℕ → ℕ → (Kind → Bool) → Named
leads_as s c n kinds = as_wanted (to_use kinds) (leads s c n)

-- What a call names, and its targets, as its names lead: these are read off its rule.
abbrev pub names_of : State → ℕ → Call → List Asked
names_of s c call = names_at (rule_of s c call) (led s c (rule_of s c call))

abbrev pub targets_of : State → ℕ → Call → List Aim
targets_of s c call = aims_at (rule_of s c call) (led s c (rule_of s c call))

-- The place that a call fills, in the table or pages that it names, and the place that it empties.
abbrev pub fills_at : State → ℕ → Call → Option Target
fills_at s c call = free_in (targets_of s c call)

abbrev pub empties_at : State → ℕ → Call → Option Target
empties_at s c call = full_in (targets_of s c call)

-- Core c reaches the place, and it holds nothing; or it holds something.
abbrev pub HoldsNothing : State → ℕ → Target → Type 0
HoldsNothing s c target = IsSomeAnd (reached s c target) λ at. IsFalse (is_some (held_in (place_at s at)))

abbrev pub HoldsSomething : State → ℕ → Target → Type 0
HoldsSomething s c target = IsSomeAnd (reached s c target) λ at. IsTrue (is_some (held_in (place_at s at)))

-- `no-slot`: a name, a target or a page has no slot.
abbrev pub PageTooLarge : Call → Type 0
PageTooLarge (Touch v) = 4095 < v
PageTooLarge _ = ⊥

abbrev pub HasNoSlot : State → ℕ → Call → Type 0
HasNoSlot s c call =
    OneIs (λ n. IsTrue (has_no_slot s (own s c n.number))) (names_of s c call)
    ⊎ (IsSomeAnd (fills_at s c call) (λ t. IsTrue (has_no_slot s t))
    ⊎ (IsSomeAnd (empties_at s c call) (λ t. IsTrue (has_no_slot s t))
    ⊎ PageTooLarge call))

-- `empty`: the place of a name, or the place to be emptied, is reached and holds nothing.
abbrev pub IsEmpty : State → ℕ → Call → Type 0
IsEmpty s c call =
    OneIs (λ n. HoldsNothing s c (own s c n.number)) (names_of s c call)
    ⊎ IsSomeAnd (empties_at s c call) (HoldsNothing s c)

-- `wrong-cap`: a name leads to a capability of a kind that is not wanted.
abbrev pub IsWrong : State → ℕ → Call → Type 0
IsWrong s c call = OneIs (λ n. IsSomeAnd (leads s c n.number) λ k. IsFalse (n.want.kinds k.kind)) (names_of s c call)

-- `no-right`: a name leads to a capability of a wanted kind that lacks a right which the name needs.
abbrev pub HasNoRight : State → ℕ → Call → Type 0
HasNoRight s c call =
    OneIs (λ n. IsSomeAnd (leads s c n.number) λ k. IsTrue (n.want.kinds k.kind) × IsFalse (has_rights k.rights n.want.needs))
    (names_of s c call)

-- `occupied`: the place to be filled is reached and holds something; or the liveness number of a new component is live.
abbrev pub NumberIs : (ℕ → Type 0) → Call → Type 0
NumberIs P (make_call (Make.Comp table pages live) r f t b) = P live
NumberIs P _ = ⊥

abbrev pub IsOccupied : State → ℕ → Call → Type 0
IsOccupied s c call = IsSomeAnd (fills_at s c call) (HoldsSomething s c) ⊎ NumberIs (λ l. IsTrue (is_live (s.number l))) call

-- `quiescing e` and `unflushed e`: core e may still be in a call that may use what is to be taken again, or may not have flushed
-- it: the place to be filled, the frame to be untyped; and for `quiescing` the liveness number of a new component.
abbrev pub UntypedIs : (ℕ → Type 0) → Call → Type 0
UntypedIs P (Retype r f FrameKind.Untyped) = P f
UntypedIs P _ = ⊥

abbrev pub PlaceIs : State → ℕ → Call → (Thing → Type 0) → Type 0
PlaceIs s c call P = IsSomeAnd (fills_at s c call) λ target. IsSomeAnd (reached s c target) λ at. P (PlaceOf at.node at.index)

abbrev pub IsQuiescing : State → ℕ → Call → ℕ → Type 0
IsQuiescing s c call e =
    PlaceIs s c call (λ x. MayWait s c x e)
    ⊎ (UntypedIs (λ f. MayWait s c (FrameOf f) e) call ⊎ NumberIs (λ l. MayWait s c (NumberOf l) e) call)

abbrev pub IsUnflushed : State → ℕ → Call → ℕ → Type 0
IsUnflushed s c call e = PlaceIs s c call (λ x. MayBeUnflushed s x e) ⊎ UntypedIs (λ f. MayBeUnflushed s (FrameOf f) e) call

-- `out-of-range`: the range is found, and the frame is below its first or past its last.
pub record LiesOutside (range : Named) (f : ℕ) : Type 0 where
  pub found : IsTrue range.found
  pub outside : (f < range.frame) ⊎ (range.frame + range.arg ≤ f)

-- Or the frames of a part are none, begin below the range's first, or end past its last.
abbrev pub part_named : State → ℕ → ℕ → Named
part_named s c r = as_wanted (to_part (only Kind.Range)) (leads s c r)

pub record LiesBeyond (range : Named) (f n : ℕ) : Type 0 where
  pub found : IsTrue range.found
  pub beyond : (n ≡ 0) ⊎ ((f < range.frame) ⊎ (range.frame + range.arg < f + n))

abbrev pub IsOutside : State → ℕ → Call → Type 0
IsOutside s c (Retype r f k) = LiesOutside (leads_as s c r (only Kind.Range)) f
IsOutside s c (make_call what r f t b) = LiesOutside (leads_as s c r (only Kind.Range)) f
IsOutside s c (Map p v r f w) = LiesOutside (leads_as s c r (only Kind.Range)) f
IsOutside s c (Part r f n t b) = LiesBeyond (part_named s c r) f n
IsOutside s c _ = ⊥

-- `frame-kind`: the frame is one of the machine's, and not what the call makes use of; or already untyped.
abbrev pub IsOtherKind : State → Call → Type 0
IsOtherKind s (Retype r f FrameKind.Untyped) = (f < s.limits.frames) × (s.frame f ≡ Untyped)
IsOtherKind s (Retype r f k) = (f < s.limits.frames) × (s.frame f ≢ Untyped)
IsOtherKind s (make_call what r f t b) = (f < s.limits.frames) × (s.frame f ≢ Kernel Blank)
IsOtherKind s (Map p v r f w) = (f < s.limits.frames) × (s.frame f ≢ User)
IsOtherKind s _ = ⊥

-- `referenced n`: the frame to be untyped has references, and n is their number.
abbrev pub IsReferenced : State → Call → ℕ → Type 0
IsReferenced s call n = UntypedIs (λ f. (0 < refs s f) × (n ≡ refs s f)) call

-- `not-empty`: the frame to be untyped is a thread deeper than one component, or a temporal capability with budget, or a place
-- of it holds something.
pub record HeldIn (s : State) (f : ℕ) : Type 0 where
  pub index : ℕ
  pub below : index < 64
  pub held : IsTrue (is_some (held_in (s.place f index)))

abbrev pub IsNotEmpty : State → Call → Type 0
IsNotEmpty s call = UntypedIs (λ f. (1 < length (thread_in (s.frame f)).stack) ⊎ ((0 < (tcap_in (s.frame f)).budget) ⊎ HeldIn s f)) call

-- `dead`: the component to be killed, or that of the gate to be called, is found, and its liveness number is not live in its
-- epoch, or the gate's.
pub record IsDeadIn (s : State) (name : Named) (epoch : ℕ) : Type 0 where
  pub found : IsTrue name.found
  pub dead : (f : ℕ) → s.number (comp_in (s.frame name.frame)).number ≢ Live epoch f

abbrev pub NamesDead : State → ℕ → Call → Type 0
NamesDead s c (Kill k) = IsDeadIn s (leads_as s c k (only Kind.Comp)) (comp_in (s.frame (leads_as s c k (only Kind.Comp)).frame)).epoch
NamesDead s c (call_gate g) = IsDeadIn s (leads_as s c g (only Kind.Gate)) (leads_as s c g (only Kind.Gate)).arg
NamesDead s c _ = ⊥

-- Or the component in which the core works does not live, and the call is one that asks for that: neither `ret`, nor `flush` or `tick`.
abbrev pub NeedsLife : Call → Type 0
NeedsLife Flush = ⊥
NeedsLife Ret = ⊥
NeedsLife (Tick n) = ⊥
NeedsLife _ = Unit {0}

pub record IsDeadHere (s : State) (c : ℕ) (call : Call) : Type 0 where
  pub needs : NeedsLife call
  pub dead : (f : ℕ) → s.number (comp_of s c).number ≢ Live (comp_of s c).epoch f

abbrev pub IsDead : State → ℕ → Call → Type 0
IsDead s c call = IsDeadHere s c call ⊎ NamesDead s c call

-- `deep` and `bottom`: the current thread is in 16 components and calls, or in one and returns.
abbrev pub IsDeep : State → ℕ → Call → Type 0
IsDeep s c (call_gate g) = 16 ≤ length (thread_of s c).stack
IsDeep s c _ = ⊥

abbrev pub IsAtBottom : State → ℕ → Call → Type 0
IsAtBottom s c Ret = length (thread_of s c).stack ≤ 1
IsAtBottom s c _ = ⊥

-- `running e`: the thread to be switched to is found, and runs on core e.
abbrev pub IsRunning : State → ℕ → Call → ℕ → Type 0
IsRunning s c (Switch h q) e =
    IsTrue (leads_as s c h (only Kind.Thread)).found × ((thread_in (s.frame (leads_as s c h (only Kind.Thread)).frame)).runs_on ≡ Some e)
IsRunning s c _ e = ⊥

-- Both temporal capabilities are found, and P holds of their frames.
pub record BothAre (a b : Named) (P : ℕ → ℕ → Type 0) : Type 0 where
  pub first : IsTrue a.found
  pub second : IsTrue b.found
  pub both : P a.frame b.frame

-- The temporal capability that number n leads to, and the one of a frame.
abbrev pub tcap_named : State → ℕ → ℕ → Named
tcap_named s c n = leads_as s c n (only Kind.Tcap)

abbrev pub tcap_of : State → ℕ → TcapFields
tcap_of s f = tcap_in (s.frame f)

-- `same`: both names lead to one temporal capability.
abbrev pub AreSame : State → ℕ → Call → Type 0
AreSame s c (Transfer a b m) = BothAre (tcap_named s c a) (tcap_named s c b) (λ f g. f ≡ g)
AreSame s c (Delegate a b m) = BothAre (tcap_named s c a) (tcap_named s c b) (λ f g. f ≡ g)
AreSame s c (Test a b) = BothAre (tcap_named s c a) (tcap_named s c b) (λ f g. f ≡ g)
AreSame s c _ = ⊥

-- `short n`: the first is found; its budget is n, and less than the amount. Or n is what core c has left to have back, and less than the
-- amount.
pub record HasLess (s : State) (a : Named) (m n : ℕ) : Type 0 where
  pub found : IsTrue a.found
  pub is : n ≡ (tcap_of s a.frame).budget
  pub less : n < m

abbrev pub IsShort : State → ℕ → Call → ℕ → Type 0
IsShort s c (Transfer a b m) n = HasLess s (tcap_named s c a) m n
IsShort s c (Delegate a b m) n = HasLess s (tcap_named s c a) m n
IsShort s c (Replenish a m) n = (n ≡ outstanding (s.core c)) × (n < m)
IsShort s c _ n = ⊥

-- `unlike`: the two lists of a transfer differ, or the list that would have ticks back does not name the scheduler of the core's grant
-- with a number that is no smaller. `too-many`: the merged list of a delegation has more than 8 schedulers.
pub record IsFiner (s : State) (c : ℕ) (a : Named) : Type 0 where
  pub found : IsTrue a.found
  pub finer : IsFalse (covers (tcap_of s a.frame).qualities (s.core c).grant)

abbrev pub AreUnlike : State → ℕ → Call → Type 0
AreUnlike s c (Transfer a b m) =
    BothAre (tcap_named s c a) (tcap_named s c b) (λ f g. (tcap_of s f).qualities ≢ (tcap_of s g).qualities)
AreUnlike s c (Replenish a m) = IsFiner s c (tcap_named s c a)
AreUnlike s c _ = ⊥

abbrev pub AreTooMany : State → ℕ → Call → Type 0
AreTooMany s c (Delegate a b m) =
    BothAre (tcap_named s c a) (tcap_named s c b) (λ f g. 8 < length (merged (tcap_of s f).qualities (tcap_of s g).qualities))
AreTooMany s c _ = ⊥

-- `fault`: the page is not cached; its root entry holds no link, or its place is reached and holds nothing.
abbrev pub HasNoPage : State → ℕ → ℕ → ℕ → Type 0
HasNoPage s c pages v =
    (translation_of (s.core c).cached pages v ≡ None)
    × (v ≤ 4095)
    × (IsFalse (holds_link (place_at s (root_slot pages v))) ⊎ HoldsNothing s c (Under (root_at pages) v))

abbrev pub IsFault : State → ℕ → Call → Type 0
IsFault s c (Touch v) = HasNoPage s c (comp_of s c).pages v
IsFault s c _ = ⊥

-- `epochs-spent`: the last epoch of a new component's liveness number is the limit.
abbrev pub AreEpochsSpent : State → Call → Type 0
AreEpochsSpent s call = NumberIs (λ l. epoch_of (s.number l) ≡ s.limits.epochs) call

-- The cause of a refusal. Of `raced` and `busy` the steps of the call tell; an `ok` has none.
abbrev pub HasCause : State → ℕ → Call → Reply → Type 0
HasCause s c call Reply.NoSlot = HasNoSlot s c call
HasCause s c call Reply.Empty = IsEmpty s c call
HasCause s c call Reply.WrongCap = IsWrong s c call
HasCause s c call Reply.NoRight = HasNoRight s c call
HasCause s c call Reply.Occupied = IsOccupied s c call
HasCause s c call (Reply.Quiescing e) = IsQuiescing s c call e
HasCause s c call (Reply.Unflushed e) = IsUnflushed s c call e
HasCause s c call Reply.FrameKind = IsOtherKind s call
HasCause s c call Reply.OutOfRange = IsOutside s c call
HasCause s c call (Reply.Referenced n) = IsReferenced s call n
HasCause s c call Reply.NotEmpty = IsNotEmpty s call
HasCause s c call Reply.Dead = IsDead s c call
HasCause s c call Reply.Deep = IsDeep s c call
HasCause s c call Reply.Bottom = IsAtBottom s c call
HasCause s c call (Reply.Running e) = IsRunning s c call e
HasCause s c call (Reply.Short n) = IsShort s c call n
HasCause s c call Reply.Unlike = AreUnlike s c call
HasCause s c call Reply.TooMany = AreTooMany s c call
HasCause s c call Reply.Same = AreSame s c call
HasCause s c call Reply.EpochsSpent = AreEpochsSpent s call
HasCause s c call Reply.Fault = IsFault s c call
HasCause s c call Reply.CallsSpent = s.limits.calls ≤ (s.core c).counted
HasCause s c call Reply.Raced = Unit {0}
HasCause s c call (Reply.Busy e) = Unit {0}
HasCause s c call (Reply.Ok v) = Unit {0}
