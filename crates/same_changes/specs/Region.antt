-- A part of a machine, and when a call comes to the same there in two states.
use Rattle.std.specs.Prelude.{◌≡◌, ◌<◌}
use Rattle.kernel_laws.specs.kernel_rules.specs.{ℕ, Bool, true, ltb as nat_lt, List, Some, Setting, IsSetting, Capability, Kind}
use Rattle.kernel_laws.specs.kernel_rules.specs.{Call, CompFields, ThreadFields, Comp, Thread, Kernel, Thing, PlaceOf, FrameOf, NumberOf}
use Rattle.kernel_laws.specs.kernel_rules.specs.{Limits, refs, Slot, found, usable, Change, Judged, Refused, Found, has_frame, acts}
use Rattle.kernel_laws.specs.kernel_rules.specs.{change_of, Event, after, Open, phase_of, IsRun, Make}
use Rattle.seq_lookups.specs.seq_state.specs.{Make as make_call, State, SameGrace}
use Rattle.std.specs.List.{AllByRecursion}

-- A region of a machine: some of its frames, of its liveness numbers and of its cores.
pub record Region : Type 0 where
  pub frame : ℕ → Bool
  pub number : ℕ → Bool
  pub core : ℕ → Bool

-- The region that is the whole of a machine with these limits.
abbrev pub whole : Limits → Region
whole limits = record { frame = λ f. nat_lt f limits.frames; number = λ l. nat_lt l 64; core = λ c. nat_lt c limits.cores }

-- A thing is in a region.
abbrev pub IsIn : Region → Thing → Type 0
IsIn w (PlaceOf f i) = (w.frame f ≡ true) × (i < 64)
IsIn w (FrameOf f) = w.frame f ≡ true
IsIn w (NumberOf l) = w.number l ≡ true

-- Two states are one on a region: for its places, frames, liveness numbers and cores, and the grace periods of its things; and each core
-- of the machine is inside a call in both or in neither.
pub record AgreeOn (w : Region) (t s : State) : Type 0 where
  pub limits : t.limits ≡ s.limits
  pub place : (f i : ℕ) → w.frame f ≡ true → i < 64 → t.place f i ≡ s.place f i
  pub frame : (f : ℕ) → w.frame f ≡ true → t.frame f ≡ s.frame f
  pub number : (l : ℕ) → w.number l ≡ true → t.number l ≡ s.number l
  pub core : (c : ℕ) → w.core c ≡ true → t.core c ≡ s.core c
  pub inside : (c : ℕ) → c < s.limits.cores → (t.core c).inside ≡ (s.core c).inside
  pub grace : (x : Thing) → IsIn w x → SameGrace s.limits.cores (t.grace x) (s.grace x)

-- The references to each frame of a region are as many in both states.
abbrev pub SameRefs : Region → State → State → Type 0
SameRefs w t s = (f : ℕ) → w.frame f ≡ true → refs t f ≡ refs s f

-- Two changes answer one value, begin the grace periods of the same things, and leave states that are one on a region.
pub record AgreeChange (w : Region) (x y : Change) : Type 0 where
  pub value : x.value ≡ y.value
  pub next : AgreeOn w x.next y.next
  pub begins : x.begins ≡ y.begins

-- Two outcomes are one refusal, or two such changes.
abbrev pub AgreeOutcome : Region → Judged Change → Judged Change → Type 0
AgreeOutcome w (Refused r) (Refused q) = r ≡ q
AgreeOutcome w (Found x) (Found y) = AgreeChange w x y
AgreeOutcome w _ _ = ⊥

-- A capability of a kind leads into a region: a range has frames of it alone, and any other names one.
abbrev pub LeadsIn : Region → Kind → Capability → Type 0
LeadsIn w Kind.Range k = (f : ℕ) → has_frame (found k) f ≡ true → w.frame f ≡ true
LeadsIn w _ k = w.frame k.frame ≡ true

-- Core c is of a region and works in it, and reaches nothing outside: its thread and its temporal capability are there; what it may use
-- of a place there leads into the region; a component there has its table, its pages and its liveness number there; a thread there has
-- the components on its stack there.
pub record ReachesOnly (w : Region) (s : State) (c : ℕ) : Type 0 where
  pub core : w.core c ≡ true
  pub thread : w.frame (s.core c).thread ≡ true
  pub tcap : w.frame (s.core c).tcap ≡ true
  pub places : (at : Slot) (k : Capability) → w.frame at.node ≡ true → usable s c at ≡ Some k → LeadsIn w k.kind k
  pub comps : (f : ℕ) (k : CompFields) → w.frame f ≡ true → s.frame f ≡ Kernel (Comp k)
      → (w.frame k.table ≡ true) × (w.frame k.pages ≡ true) × (w.number k.number ≡ true)
  pub stacks : (f : ℕ) (h : ThreadFields) → w.frame f ≡ true → s.frame f ≡ Kernel (Thread h)
      → AllByRecursion (λ g. w.frame g ≡ true) h.stack

-- A call names no liveness number but one of a region.
abbrev pub NamesIn : Region → Call → Type 0
NamesIn w (make_call (Make.Comp table pages live) range frame slots slot) = w.number live ≡ true
NamesIn w call = Unit {0}

-- In every state that a run reaches from which the core of an open call reaches nothing outside a region, and in every state that is one
-- with it there and has as many references to each frame there, the call comes to the same there: the core may make it or may not in
-- both, and it has one outcome.
abbrev pub ChangesAgree : Type 0
ChangesAgree = (setting : Setting) → IsSetting setting → (events : List Event) → IsRun setting events
    → (c : ℕ) (call : Call) → phase_of events c ≡ Open call
    → (w : Region) → ReachesOnly w (after setting events) c → NamesIn w call
    → (t : State) → AgreeOn w t (after setting events) → SameRefs w t (after setting events)
    → (acts t c call ≡ acts (after setting events) c call)
    × AgreeOutcome w (change_of t c call) (change_of (after setting events) c call)
