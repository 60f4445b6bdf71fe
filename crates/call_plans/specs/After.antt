-- What is left of a rule and of a plan after the names that have led to capabilities, and what is looked up next.
use Rattle.std.specs.Prelude.{◌≡◌, ◌∷◌, ◌++◌}
use Rattle.kernel_invariant.specs.kernel_rules.specs.{ℕ, Bool, List, [], Option, Some, None, IsFalse, Capability, Reply}
use Rattle.kernel_invariant.specs.kernel_rules.specs.{Named, found, Want, Target as place, Rule, Name as name_rule, Found, named, NameMay}
use Rattle.kernel_invariant.specs.kernel_rules.specs.{VacantMay, HeldMay, MappedMay}
use Rattle.call_plans.specs.{declared.plans.Name.Name, declared.plans.Target.Target, declared.plans.Target.TheVariants.Nowhere}
use Rattle.call_plans.specs.{declared.plans.Target.TheVariants.Free, declared.plans.Target.TheVariants.Held}
use Rattle.call_plans.specs.{declared.plans.Target.TheVariants.Own, declared.plans.Plan.Plan, Plans.head, GoesBy.OwnPages, GoesBy.want_of}
use Rattle.{kernel_invariant.specs.kernel_rules.specs.State.State, call_plans.specs.GoesBy.place_of_spot}

-- The rule after its first names, which have led to these capabilities.
abbrev pub rule_after : Rule → List Capability → Rule
rule_after rule [] = rule
rule_after (name_rule n want rest) (k ∷ ks) = rule_after (rest (found k)) ks
rule_after rule (k ∷ ks) = rule

-- What the names have led to, with these.
abbrev pub with_found : List Named → List Capability → List Named
with_found caps [] = caps
with_found caps (k ∷ ks) = with_found (caps ++ found k ∷ []) ks

-- The names after those that have led to these.
abbrev pub names_after : List Name → List Capability → List Name
names_after names [] = names
names_after [] (k ∷ ks) = []
names_after (name ∷ names) (k ∷ ks) = names_after names ks

-- The first of these names lead to these capabilities, where the names before them have led to those: P says of a number and
-- what is wanted that they lead to a capability.
abbrev pub Leads : (ℕ → Want → Capability → Type 0) → List Name → List Named → List Capability → Type 0
Leads P names caps [] = Unit {0}
Leads P [] caps (k ∷ ks) = ⊥
Leads P (name ∷ names) caps (k ∷ ks) = P name.number (want_of caps name) k × Leads P names (caps ++ found k ∷ []) ks

-- In state s, a number leads core c to a capability.
abbrev pub LeadsIn : State → ℕ → ℕ → Want → Capability → Type 0
LeadsIn s c n want k = named s c n want ≡ Found k

-- What is looked up next.
pub data Next : Type 0 where
  NextName : ℕ → Want → Next
  NextFree : place → Next
  NextHeld : place → Next
  NextOwn : ℕ → Next
  NextNothing : Next

abbrev pub next_target : List Named → Target → Next
next_target caps Nowhere = NextNothing
next_target caps (Free spot) = NextFree (place_of_spot caps spot)
next_target caps (Held spot) = NextHeld (place_of_spot caps spot)
next_target caps (Own v) = NextOwn v

abbrev pub next_by : List Named → Option Name → Target → Next
next_by caps None target = next_target caps target
next_by caps (Some name) target = NextName name.number (want_of caps name)

abbrev pub next_in : List Named → List Name → Target → Next
next_in caps names target = next_by caps (head names) target

-- What a call with this plan looks up next, where its names have led to these.
abbrev pub next_of : Plan → List Capability → Next
next_of plan ks = next_in (with_found [] ks) (names_after plan.names ks) plan.target

-- How the next look-up of core c may be refused: a page of its own pages only where its translation is not cached.
abbrev pub NextMay : State → ℕ → OwnPages → Next → Reply → Type 0
NextMay s c pages (NextName n want) r = NameMay s c n want r
NextMay s c pages (NextFree target) r = VacantMay s c target r
NextMay s c pages (NextHeld target) r = HeldMay s c target r
NextMay s c pages (NextOwn v) r = IsFalse (pages.cached v) × MappedMay s c pages.table v r
NextMay s c pages NextNothing r = ⊥
