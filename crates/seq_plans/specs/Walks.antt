-- What a call looks up by its plan, and what is then left of its rule.
use Rattle.std.specs.Prelude.{◌&&◌, if◌then◌else◌, ◌∷◌}
use Rattle.seq_state.specs.{ℕ, List, [], Option, Some, None, option_and_then, Capability, has_rights, State}
use Rattle.seq_state.specs.{comp_of, Slot, Named, Want, Under, root_at, place_at, held_in, own, Rule, Name as name_rule, Vacant}
use Rattle.seq_state.specs.{Held as held_rule, Mapped, Does, Cause}
use Rattle.call_plans.specs.{at_place, want_of, place_of_spot}
use Rattle.call_plans.specs.{declared.plans.Nth.Nth, declared.plans.Nth.TheVariants.First, declared.plans.Nth.TheVariants.Second}
use Rattle.call_plans.specs.{declared.plans.Nth.TheVariants.Third, declared.plans.Nth.TheVariants.Fourth, declared.plans.Name.Name}
use Rattle.call_plans.specs.{declared.plans.Target.Target, declared.plans.Target.TheVariants.Nowhere}
use Rattle.call_plans.specs.{declared.plans.Target.TheVariants.Free, declared.plans.Target.TheVariants.Held}
use Rattle.call_plans.specs.{declared.plans.Target.TheVariants.Own as own_page, declared.plans.Plan.Plan}
use Rattle.seq_plans.specs.{declared.reaching.Reach.Reach, declared.walking.Looked.Looked, Reaches.named_of, Reaches.usable_by}
use Rattle.{seq_state.specs.kernel_rules.specs.Rules.slot_of, seq_plans.specs.Reaches.reached_by}

-- What the names have led to, in their order.
abbrev pub names_in : Looked → List Named
names_in l = named_of l.first ∷ named_of l.second ∷ named_of l.third ∷ named_of l.fourth ∷ []

-- Nothing was looked up.
abbrev pub nothing : Looked
nothing = record { first = None; second = None; third = None; fourth = None; at = None; held = None }

-- What the names before this one have led to.
abbrev pub before : Looked → Nth → Looked
before l First = nothing
before l Second = record nothing { first = l.first }
before l Third = record nothing { first = l.first; second = l.second }
before l Fourth = record nothing { first = l.first; second = l.second; third = l.third }

-- A capability such as is wanted.
abbrev pub if_wanted : Want → Capability → Option Capability
if_wanted want k = if want.kinds k.kind && has_rights k.rights want.needs then Some k else None

-- The capability to which a number leads core c, where it is such as is wanted.
abbrev pub led : Reach → State → ℕ → ℕ → Want → Option Capability
led reach s c n want =
    option_and_then (λ at. option_and_then (if_wanted want) (usable_by reach s c at)) (reached_by reach s c (own s c n))

-- That of a name, where the names before it have led to these.
abbrev pub led_by : Reach → State → ℕ → Looked → Option Name → Option Capability
led_by reach s c l None = None
led_by reach s c l (Some name) = led reach s c name.number (want_of (names_in l) name)

-- The slot of a target, where the names have led to these.
abbrev pub slot_by : Reach → State → ℕ → List Named → Target → Option Slot
slot_by reach s c caps Nowhere = None
slot_by reach s c caps (Free spot) = reached_by reach s c (place_of_spot caps spot)
slot_by reach s c caps (Held spot) = reached_by reach s c (place_of_spot caps spot)
slot_by reach s c caps (own_page v) = reached_by reach s c (Under (root_at (comp_of s c).pages) v)

-- What the target holds, where the call asks for it.
abbrev pub held_by : State → Target → Option Slot → Option Capability
held_by s Nowhere at = None
held_by s (Free spot) at = None
held_by s (Held spot) at = option_and_then (λ at. held_in (place_at s at)) at
held_by s (own_page v) at = option_and_then (λ at. held_in (place_at s at)) at

-- With one thing more looked up: each name, and the target.
abbrev pub with_first : Reach → State → ℕ → Plan → Looked → Looked
with_first reach s c plan l = record l { first = led_by reach s c l (at_place plan.names First) }

abbrev pub with_second : Reach → State → ℕ → Plan → Looked → Looked
with_second reach s c plan l = record l { second = led_by reach s c l (at_place plan.names Second) }

abbrev pub with_third : Reach → State → ℕ → Plan → Looked → Looked
with_third reach s c plan l = record l { third = led_by reach s c l (at_place plan.names Third) }

abbrev pub with_fourth : Reach → State → ℕ → Plan → Looked → Looked
with_fourth reach s c plan l = record l { fourth = led_by reach s c l (at_place plan.names Fourth) }

abbrev pub with_target : Reach → State → ℕ → Plan → Looked → Looked
with_target reach s c plan l =
    record l {
      at = slot_by reach s c (names_in l) plan.target;
      held = held_by s plan.target (slot_by reach s c (names_in l) plan.target);
    }

-- All that core c looks up by a plan.
abbrev pub looked : Reach → State → ℕ → Plan → Looked
looked reach s c plan =
    with_target reach s c plan (with_fourth reach s c plan (with_third reach s c plan
    (with_second reach s c plan (with_first reach s c plan nothing))))

-- What is left of a rule after its names and its target, where these have been found; a rule that asks for what was not found stays.
abbrev pub rest_by : Rule → List Named → Option Slot → Option Capability → Rule
rest_by (name_rule n want rest) (k ∷ ks) at held = rest_by (rest k) ks at held
rest_by (name_rule n want rest) [] at held = name_rule n want rest
rest_by (Vacant target rest) ks at held = rest (slot_of at)
rest_by (held_rule target rest) ks (Some at) (Some k) = rest at k
rest_by (held_rule target rest) ks (Some at) None = held_rule target rest
rest_by (held_rule target rest) ks None held = held_rule target rest
rest_by (Mapped table v rest) ks at (Some k) = rest k
rest_by (Mapped table v rest) ks at None = Mapped table v rest
rest_by (Does causes value edits) ks at held = Does causes value edits

-- What is left of a rule after what was looked up.
abbrev pub left_of : Rule → Looked → Rule
left_of rule l = rest_by rule (names_in l) l.at l.held

-- The own causes of what is left of a rule.
abbrev pub causes_of : Rule → List Cause
causes_of (Does causes value edits) = causes
causes_of (name_rule n want rest) = []
causes_of (Vacant target rest) = []
causes_of (held_rule target rest) = []
causes_of (Mapped table v rest) = []
