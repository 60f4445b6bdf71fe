-- How the look-ups of a plan may be refused, where its names have led to what was looked up.
use Rattle.std.specs.Prelude.{◌⊎◌, ◌≤◌}
use Rattle.seq_state.specs.kernel_rules.specs.{ℕ, length, Bool, List, Option, Some, None, is_some, IsFalse, Reply, comp_of, Named}
use Rattle.seq_state.specs.kernel_rules.specs.{translation_of, Rule, NameMay, VacantMay, HeldMay, MappedMay, OneMay, RuleMay}
use Rattle.call_plans.specs.{at_place, own_pages, want_of, place_of_spot}
use Rattle.call_plans.specs.{declared.plans.Nth.Nth, declared.plans.Nth.TheVariants.First, declared.plans.Nth.TheVariants.Second}
use Rattle.call_plans.specs.{declared.plans.Nth.TheVariants.Third, declared.plans.Nth.TheVariants.Fourth, declared.plans.Name.Name}
use Rattle.call_plans.specs.{declared.plans.Target.Target, declared.plans.Target.TheVariants.Nowhere}
use Rattle.call_plans.specs.{declared.plans.Target.TheVariants.Free, declared.plans.Target.TheVariants.Held}
use Rattle.call_plans.specs.{declared.plans.Target.TheVariants.Own, declared.plans.Plan.Plan, GoesBy.GoesBy}
use Rattle.seq_plans.specs.{declared.walking.Looked.Looked, declared.reaching.Reach.TheVariants.Own as own_reach, Walks.names_in}
use Rattle.seq_plans.specs.{Walks.before, Walks.looked, Walks.left_of, Walks.causes_of}
use Rattle.{std.specs.Prelude.MatchBool, seq_state.specs.kernel_rules.specs.State.State}

-- True exactly where P holds.
abbrev pub Decides : Bool → Type 0 → Type 0
Decides b P = MatchBool b P (P → ⊥)

-- A name may be refused, if there is one.
abbrev pub SomeNameMay : State → ℕ → Looked → Option Name → Reply → Type 0
SomeNameMay s c l None r = ⊥
SomeNameMay s c l (Some name) r = NameMay s c name.number (want_of (names_in l) name) r

-- The name at this place may be refused.
abbrev pub NthMay : State → ℕ → Plan → Looked → Nth → Reply → Type 0
NthMay s c plan l nth r = SomeNameMay s c (before l nth) (at_place plan.names nth) r

-- The target may be refused, where the names have led to these; a page of the caller's own pages where its translation is not cached.
abbrev pub TargetMay : State → ℕ → Target → List Named → Reply → Type 0
TargetMay s c Nowhere caps r = ⊥
TargetMay s c (Free spot) caps r = VacantMay s c (place_of_spot caps spot) r
TargetMay s c (Held spot) caps r = HeldMay s c (place_of_spot caps spot) r
TargetMay s c (Own v) caps r =
    IsFalse (is_some (translation_of (s.core c).cached (comp_of s c).pages v)) × MappedMay s c (comp_of s c).pages v r

-- One of the look-ups of a plan may be refused.
abbrev pub LooksMay : State → ℕ → Plan → Looked → Reply → Type 0
LooksMay s c plan l r =
    NthMay s c plan l First r ⊎ (NthMay s c plan l Second r ⊎ (NthMay s c plan l Third r ⊎ (NthMay s c plan l Fourth r
    ⊎ TargetMay s c plan.target (names_in l) r)))

-- The one holds exactly where the other does.
pub record Iff (A B : Type 0) : Type 0 where
  pub there : A → B
  pub back : B → A

-- In each state, a rule that goes by a plan of at most four names may be refused exactly where one of the plan's look-ups may be, or
-- one of the own causes that are left after what was looked up.
abbrev pub RefusedByPlan : Type 0
RefusedByPlan = (s : State) (c : ℕ) (plan : Plan) (rule : Rule) (r : Reply)
    → length plan.names ≤ 4 → GoesBy (own_pages s c) plan rule
    → Iff (RuleMay s c rule r) (LooksMay s c plan (looked own_reach s c plan) r
    ⊎ OneMay s c (causes_of (left_of rule (looked own_reach s c plan))) r)
