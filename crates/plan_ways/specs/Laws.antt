-- What is proved of the ways of a call by its plan, where its first names have led to some capabilities.
use Rattle.std.specs.Prelude.{◌≡◌}
use Rattle.kernel_history.specs.{ℕ, true, List, [], Option, Some, None, IsFalse, Capability, Call, Reply, FrameAt, CountAt, State}
use Rattle.kernel_history.specs.{Thing, Slot, Target as place, own, reached, Cause, Rule, named, vacant, held, outcome, named_by, way_to}
use Rattle.kernel_history.specs.{ways, wide_way_to, wide_ways, target_of, asked_of, is_slot_in, HasReached, frames_named, is_one_of}
use Rattle.call_plans.specs.{at_place, plan_for, OwnPages, rule_after, Leads, LeadsIn, NextName, NextFree, NextHeld, NextOwn, NextNothing}
use Rattle.kernel_history.specs.kernel_rules.specs.{Refused, mapped}
use Rattle.call_plans.specs.{declared.plans.Nth.Nth, declared.plans.Plan.Plan, GoesBy.GoesBy, After.Next, Laws.AfterNames}
use Rattle.{kernel_history.specs.IsInFootprint, call_plans.specs.next_of, kernel_history.specs.Trace.Trace}

-- The place of the next look-up.
abbrev pub NextPlace : State → ℕ → Next → place → Type 0
NextPlace s c (NextName n wanted) target = target ≡ own s c n
NextPlace s c (NextFree t) target = target ≡ t
NextPlace s c (NextHeld t) target = target ≡ t
NextPlace s c (NextOwn v) target = ⊥
NextPlace s c NextNothing target = ⊥

-- The way of the next look-up is on the wide ways of the rule.
abbrev pub NextOnWay : Type 0
NextOnWay = AfterNames λ s c pages plan rule ks.
    (target : place) (f i : ℕ)
    → NextPlace s c (next_of plan ks) target
    → is_slot_in (wide_way_to s target) f i ≡ true
    → is_slot_in (wide_ways s c rule) f i ≡ true

-- The target's slot, if the next look-up is of the target.
abbrev pub IsTargetOf : State → ℕ → Next → Option Slot → Type 0
IsTargetOf s c (NextName n wanted) at = Unit {0}
IsTargetOf s c (NextFree t) at = at ≡ reached s c t
IsTargetOf s c (NextHeld t) at = at ≡ reached s c t
IsTargetOf s c (NextOwn v) at = at ≡ None
IsTargetOf s c NextNothing at = at ≡ None

-- After all names the target of the rule is that of the plan.
abbrev pub TargetIsNext : Type 0
TargetIsNext = AfterNames λ s c pages plan rule ks. IsTargetOf s c (next_of plan ks) (target_of s c rule)

-- The things whose grace periods the rule asks for are those that what is left of it asks for.
abbrev pub AskedIsLeft : Type 0
AskedIsLeft = AfterNames λ s c pages plan rule ks.
    (of_cause : Cause → List Thing) → asked_of of_cause s c rule ≡ asked_of of_cause s c (rule_after rule ks)

-- The next look-up of core c is refused in state s; a page of its own pages, where its translation is not cached.
abbrev pub NextRefused : State → ℕ → OwnPages → Next → Reply → Type 0
NextRefused s c pages (NextName n wanted) r = named s c n wanted ≡ Refused r
NextRefused s c pages (NextFree t) r = vacant s c t ≡ Refused r
NextRefused s c pages (NextHeld t) r = held s c t ≡ Refused r
NextRefused s c pages (NextOwn v) r = IsFalse (pages.cached v) × (mapped s c pages.table v ≡ Refused r)
NextRefused s c pages NextNothing r = ⊥

-- Where the next look-up is refused, so is the call, and with that refusal.
abbrev pub NextIsFirst : Type 0
NextIsFirst = AfterNames λ s c pages plan rule ks. (r : Reply) → NextRefused s c pages (next_of plan ks) r → outcome s c rule ≡ Refused r

-- A frame that is named by a capability to which a name has led is one of those to which the names of the rule lead.
abbrev pub FoundAreNamed : Type 0
FoundAreNamed = AfterNames λ s c pages plan rule ks.
    (at : Nth) (k : Capability)
    → at_place ks at ≡ Some k
    → (f : ℕ)
    → is_one_of f (named_by k.kind k.frame) ≡ true
    → is_one_of f (frames_named s c rule) ≡ true

-- The word of a frame and each of its count words are in the footprint of a call of core c.
pub record FrameIsInFootprint (s : State) (c : ℕ) (call : Call) (f : ℕ) : Type 0 where
  pub frame : IsInFootprint c call (FrameAt f) s
  pub count : (d : ℕ) → IsInFootprint c call (CountAt f d) s

-- A frame that is named by a capability to which a name of a call has led is in the call's footprint.
abbrev pub FoundAreInFootprint : Type 0
FoundAreInFootprint =
    (s : State) (c : ℕ) (call : Call) (ks : List Capability)
    → Leads (LeadsIn s c) (plan_for call).names [] ks
    → (at : Nth) (k : Capability)
    → at_place ks at ≡ Some k
    → (f : ℕ)
    → is_one_of f (named_by k.kind k.frame) ≡ true
    → FrameIsInFootprint s c call f

-- A call that has gone the way to each of these names, and all ways of what is left, has gone all ways of the rule.
abbrev pub AllWays : Type 0
AllWays =
    (s : State) (c : ℕ) (pages : OwnPages) (t : Trace) (plan : Plan) (rule : Rule) (ks : List Capability)
    → GoesBy pages plan rule
    → Leads (λ n wanted k. LeadsIn s c n wanted k × HasReached t c (way_to s c (own s c n))) plan.names [] ks
    → HasReached t c (ways s c (rule_after rule ks))
    → HasReached t c (ways s c rule)
