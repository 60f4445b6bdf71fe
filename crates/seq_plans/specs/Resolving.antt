-- What a call finds by its plan: all that it looks up, or the first refusal of its look-ups in their order.
use Rattle.call_plans.specs as low
use Rattle.std.specs.Prelude.{◌≡◌, ◌≤◌}
use Rattle.seq_state.specs.{ℕ, Bool, true, false, length, Option, Some, None, is_some, Capability, State, comp_of, translation_of}
use Rattle.seq_state.specs.{Rule, Judged, Refused, Found, and_then, named, vacant, held, mapped, outcome}
use low.{at_place, OnlyDoes, own_pages, want_of, place_of_spot, declared.plans.Nth.TheVariants.First, declared.plans.Nth.TheVariants.Second}
use low.{declared.plans.Nth.TheVariants.Third, declared.plans.Nth.TheVariants.Fourth, declared.plans.Name.Name}
use low.{declared.plans.Target.Target, declared.plans.Target.TheVariants.Nowhere, declared.plans.Target.TheVariants.Free}
use low.{declared.plans.Target.TheVariants.Held, declared.plans.Target.TheVariants.Own, declared.plans.Plan.Plan, GoesBy.GoesBy}
use Rattle.seq_plans.specs.{declared.walking.Looked.Looked, Walks.names_in, Walks.nothing, Walks.left_of}

-- The capability to which a name leads core c, where the names before it have led to these; none, where there is no such name.
abbrev pub named_by : State → ℕ → Looked → Option Name → Judged (Option Capability)
named_by s c l None = Found None
named_by s c l (Some name) = and_then (named s c name.number (want_of (names_in l) name)) λ k. Found (Some k)

-- A page of the caller's own pages: what is mapped there, where its translation is not cached.
abbrev pub paged_by : State → ℕ → ℕ → Looked → Bool → Judged Looked
paged_by s c v l true = Found l
paged_by s c v l false = and_then (mapped s c (comp_of s c).pages v) λ k. Found (record l { held = Some k })

-- The target, where the names have led to these: its slot, and what that holds where it is to be held.
abbrev pub aimed_by : State → ℕ → Target → Looked → Judged Looked
aimed_by s c Nowhere l = Found l
aimed_by s c (Free spot) l =
    and_then (vacant s c (place_of_spot (names_in l) spot)) λ at. Found (record l { at = Some at })
aimed_by s c (Held spot) l =
    and_then (held s c (place_of_spot (names_in l) spot)) λ p. Found (record l { at = Some p.0; held = Some p.1 })
aimed_by s c (Own v) l = paged_by s c v l (is_some (translation_of (s.core c).cached (comp_of s c).pages v))

-- What is found from the fourth name on, the third, and the second, where the names before have led to these.
abbrev pub from_fourth : State → ℕ → Plan → Looked → Judged Looked
from_fourth s c plan l =
    and_then (named_by s c l (at_place plan.names Fourth)) λ k. aimed_by s c plan.target (record l { fourth = k })

abbrev pub from_third : State → ℕ → Plan → Looked → Judged Looked
from_third s c plan l =
    and_then (named_by s c l (at_place plan.names Third)) λ k. from_fourth s c plan (record l { third = k })

abbrev pub from_second : State → ℕ → Plan → Looked → Judged Looked
from_second s c plan l =
    and_then (named_by s c l (at_place plan.names Second)) λ k. from_third s c plan (record l { second = k })

-- All that core c finds by a plan.
abbrev pub resolved : State → ℕ → Plan → Judged Looked
resolved s c plan =
    and_then (named_by s c nothing (at_place plan.names First)) λ k. from_second s c plan (record nothing { first = k })

-- What comes of a rule: the first refusal, or what is left of the rule, which looks up nothing more.
abbrev pub Comes : State → ℕ → Rule → Judged Looked → Type 0
Comes s c rule (Refused r) = outcome s c rule ≡ Refused r
Comes s c rule (Found l) = (outcome s c rule ≡ outcome s c (left_of rule l)) × OnlyDoes (left_of rule l)

-- In each state, what comes of a rule that goes by a plan of at most four names is what comes of all that is found by the plan.
abbrev pub ResolvedByPlan : Type 0
ResolvedByPlan = (s : State) (c : ℕ) (plan : Plan) (rule : Rule)
    → length plan.names ≤ 4 → GoesBy (own_pages s c) plan rule → Comes s c rule (resolved s c plan)
