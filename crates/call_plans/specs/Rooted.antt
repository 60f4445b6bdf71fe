-- The target of a plan is in a table to whose root one of the plan's names is to lead.
use Rattle.kernel_invariant.specs.kernel_rules.specs.{List, IsTrue, IsSomeAnd, Kind, Call, Named, root}
use Rattle.call_plans.specs.{declared.plans.Nth.Nth, declared.plans.Wanted.Wanted, declared.plans.Name.Name, declared.plans.Spot.Spot}
use Rattle.call_plans.specs.{declared.plans.Spot.TheVariants.Under, declared.plans.Spot.TheVariants.InRoot, declared.plans.Target.Target}
use Rattle.call_plans.specs.{declared.plans.Target.TheVariants.Nowhere, declared.plans.Target.TheVariants.Free}
use Rattle.call_plans.specs.{declared.plans.Target.TheVariants.Held, declared.plans.Target.TheVariants.Own, Plans.at_place, PlanOf.plan_for}
use Rattle.call_plans.specs.{GoesBy.wants}

-- the name that leads to the root of a spot
abbrev pub root_of : Spot → Nth
root_of (Under i n) = i
root_of (InRoot i e) = i

-- a root alone is wanted, whatever earlier names have led to
abbrev pub WantsRoot : Wanted → Type 0
WantsRoot wanted = (caps : List Named) (k : Kind) → IsTrue (wants caps wanted k) → IsTrue (root k)

abbrev pub RootIs : List Name → Spot → Type 0
RootIs names spot = IsSomeAnd (at_place names (root_of spot)) λ name. WantsRoot name.wanted

-- a target in a table is in that of a name that wants a root
abbrev pub IsRooted : List Name → Target → Type 0
IsRooted names Nowhere = Unit {0}
IsRooted names (Free spot) = RootIs names spot
IsRooted names (Held spot) = RootIs names spot
IsRooted names (Own v) = Unit {0}

-- The target of each call is in a table to whose root one of its names is to lead.
abbrev pub AreRooted : Type 0
AreRooted = (call : Call) → IsRooted (plan_for call).names (plan_for call).target
