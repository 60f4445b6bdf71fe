-- The places through which the names, the target and the page of a call are reached, and the things that it waits for.
use Rattle.std.specs.Prelude.{◌%◌, ◌&&◌, if◌then◌else◌, ◌∷◌, ◌++◌}
use Rattle.kernel_rules.specs.{ℕ, leb as nat_le, List, [], option_to_list, Option, Some, None}
use Rattle.kernel_rules.specs.{Capability, Place, Free, Holds, Quiescing, Thing, PlaceOf, Slot, Target, Under, InRoot, place_at, linked}
use Rattle.kernel_rules.specs.{slot_in, root_slot, reached, root_at, own, Rule, Name, Vacant, Held, Mapped, Does, Cause, When, WaitedFor}
use Rattle.kernel_rules.specs.{Unflushed, Judged, Refused, Found, named, held, name_of, slot_of}
use Rattle.kernel_rules.specs.State.{State}

-- The capability of a place, also where it is removed.
abbrev pub capability_in : Place → Option Capability
capability_in Free = None
capability_in (Holds k) = Some k
capability_in (Quiescing k) = Some k

-- The slot of a target where a root entry leads on though its link is removed.
abbrev pub led_to : State → Target → Option Slot
led_to s (Under table n) = if table.found
    && nat_le n 4095 then slot_in (linked (capability_in (place_at s (root_slot table.frame n)))) (n % 64) else None
led_to s (InRoot table i) = if table.found && nat_le i 63 then Some record { node = table.frame; index = i } else None

-- The root entry that a target passes.
abbrev pub root_passed : Target → List Slot
root_passed (Under table n) = if table.found && nat_le n 4095 then root_slot table.frame n ∷ [] else []
root_passed (InRoot table i) = []

-- The places through which core c reaches a target, these included.
abbrev pub way_to : State → ℕ → Target → List Slot
way_to s c target = root_passed target ++ option_to_list (reached s c target)

-- The places through which a target is reached where removed root entries lead on.
abbrev pub wide_way_to : State → Target → List Slot
wide_way_to s target = root_passed target ++ option_to_list (led_to s target)

-- The places through which core c reaches the names and the target of a rule.
abbrev pub ways : State → ℕ → Rule → List Slot
ways s c (Name n wanted rest) = way_to s c (own s c n) ++ ways s c (rest (name_of (named s c n wanted)))
ways s c (Vacant target rest) = way_to s c target
ways s c (Held target rest) = way_to s c target
ways s c (Mapped table v rest) = []
ways s c (Does causes value edits) = []

-- The places through which the names, the target and the page of a rule are reached where removed root entries lead on.
abbrev pub wide_ways : State → ℕ → Rule → List Slot
wide_ways s c (Name n wanted rest) = wide_way_to s (own s c n) ++ wide_ways s c (rest (name_of (named s c n wanted)))
wide_ways s c (Vacant target rest) = wide_way_to s target
wide_ways s c (Held target rest) = wide_way_to s target
wide_ways s c (Mapped table v rest) = wide_way_to s (Under (root_at table) v)
wide_ways s c (Does causes value edits) = []

-- The slot of a rule's target, if it has one that is reached.
abbrev pub target_of : State → ℕ → Rule → Option Slot
target_of s c (Name n wanted rest) = target_of s c (rest (name_of (named s c n wanted)))
target_of s c (Vacant target rest) = reached s c target
target_of s c (Held target rest) = reached s c target
target_of s c (Mapped table v rest) = None
target_of s c (Does causes value edits) = None

-- The place at a slot, as a thing.
abbrev pub thing_at : Option Slot → List Thing
thing_at None = []
thing_at (Some at) = PlaceOf at.node at.index ∷ []

-- The thing whose grace period a cause waits for, and the thing that a cause wants flushed.
abbrev pub waited_in : Cause → List Thing
waited_in (When condition r) = []
waited_in (WaitedFor x) = x ∷ []
waited_in (Unflushed x) = []

abbrev pub flushed_in : Cause → List Thing
flushed_in (When condition r) = []
flushed_in (WaitedFor x) = []
flushed_in (Unflushed x) = x ∷ []

-- The things of these causes.
abbrev pub things_in : (Cause → List Thing) → List Cause → List Thing
things_in of_cause [] = []
things_in of_cause (cause ∷ causes) = of_cause cause ++ things_in of_cause causes

-- What stands for what is found, and nothing for a refusal.
abbrev pub of_found : {A B : Type 0} → Judged A → (A → List B) → List B
of_found (Refused r) f = []
of_found (Found x) f = f x

-- The things whose grace periods a rule looks at: a target that is to be free, and those of its causes.
abbrev pub asked_of : (Cause → List Thing) → State → ℕ → Rule → List Thing
asked_of of_cause s c (Name n wanted rest) = asked_of of_cause s c (rest (name_of (named s c n wanted)))
asked_of of_cause s c (Vacant target rest) = thing_at (reached s c target) ++ asked_of of_cause s c (rest (slot_of (reached s c target)))
asked_of of_cause s c (Held target rest) = of_found (held s c target) λ p. asked_of of_cause s c (rest p.0 p.1)
asked_of of_cause s c (Mapped table v rest) = []
asked_of of_cause s c (Does causes value edits) = things_in of_cause causes
