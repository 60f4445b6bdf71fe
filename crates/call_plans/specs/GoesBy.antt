-- A rule goes by a plan: its names, what they want, and its target are those of the plan, whatever the names lead to.
use Rattle.std.specs.Prelude.{◌≡◌, ◌∷◌, ◌++◌}
use Rattle.kernel_invariant.specs.kernel_rules.specs.{ℕ, Bool, List, [], Option, Some, None, is_some, IsTrue, IsFalse}
use Rattle.kernel_invariant.specs.kernel_rules.specs.{Capability, Kind, comp_of, translation_of, Slot, Named, not_found, Want, any, only}
use Rattle.kernel_invariant.specs.kernel_rules.specs.{root, Target as place, Under as under, InRoot as in_root, Rule, Name as name_rule}
use Rattle.kernel_invariant.specs.kernel_rules.specs.{Vacant as vacant_rule, Held as held_rule, Mapped as mapped_rule, Does, leaf_for}
use Rattle.call_plans.specs.{declared.plans.Nth.Nth, declared.plans.Wanted.Wanted, declared.plans.Wanted.TheVariants.Any}
use Rattle.call_plans.specs.{declared.plans.Wanted.TheVariants.Only, declared.plans.Wanted.TheVariants.Root}
use Rattle.call_plans.specs.{declared.plans.Wanted.TheVariants.LeafOf, declared.plans.Name.Name, declared.plans.Spot.Spot}
use Rattle.call_plans.specs.{declared.plans.Spot.TheVariants.Under, declared.plans.Spot.TheVariants.InRoot, declared.plans.Target.Target}
use Rattle.call_plans.specs.{declared.plans.Target.TheVariants.Nowhere, declared.plans.Target.TheVariants.Free}
use Rattle.call_plans.specs.{declared.plans.Target.TheVariants.Held, declared.plans.Target.TheVariants.Own, declared.plans.Plan.Plan}
use Rattle.{kernel_invariant.specs.kernel_rules.specs.State.State, call_plans.specs.Plans.at_place}

-- What an earlier name has led to.
abbrev pub or_not_found : Option Named → Named
or_not_found None = not_found
or_not_found (Some k) = k

abbrev pub earlier : List Named → Nth → Named
earlier caps i = or_not_found (at_place caps i)

-- The kinds that are wanted, where the earlier names have led to these.
abbrev pub wants : List Named → Wanted → Kind → Bool
wants caps Any = any
wants caps (Only kind) = only kind
wants caps Root = root
wants caps (LeafOf i) = leaf_for (earlier caps i)

-- What a name wants, where the earlier names have led to these: kinds, and the rights that it needs.
abbrev pub want_of : List Named → Name → Want
want_of caps name = record { kinds = wants caps name.wanted; needs = name.needs.0 }

-- The place of a spot.
abbrev pub place_of_spot : List Named → Spot → place
place_of_spot caps (Under i n) = under (earlier caps i) n
place_of_spot caps (InRoot i e) = in_root (earlier caps i) e

-- A rule with nothing to look up.
abbrev pub OnlyDoes : Rule → Type 0
OnlyDoes (Does causes value edits) = Unit {0}
OnlyDoes _ = ⊥

-- The caller's own pages: their root, and whether the translation of a page is cached.
pub record OwnPages : Type 0 where
  pub table : ℕ
  pub cached : ℕ → Bool

abbrev pub own_pages : State → ℕ → OwnPages
own_pages s c = record { table = (comp_of s c).pages; cached = λ v. is_some (translation_of (s.core c).cached (comp_of s c).pages v) }

-- A rule looks up this target and then nothing, where its names have led to these. A page of the caller's own pages is looked up
-- where its translation is not cached.
abbrev pub GoesTo : OwnPages → Target → List Named → Rule → Type 0
GoesTo pages Nowhere caps rule = OnlyDoes rule
GoesTo pages (Free spot) caps (vacant_rule target rest) = (target ≡ place_of_spot caps spot) × ((at : Slot) → OnlyDoes (rest at))
GoesTo pages (Held spot) caps (held_rule target rest) = (target ≡ place_of_spot caps spot)
    × ((at : Slot) (k : Capability) → OnlyDoes (rest at k))
GoesTo pages (Own v) caps (mapped_rule table n rest) = (table ≡ pages.table) × (n ≡ v) × IsFalse (pages.cached v)
    × ((k : Capability) → OnlyDoes (rest k))
GoesTo pages (Own v) caps (Does causes value edits) = IsTrue (pages.cached v)
GoesTo pages _ caps _ = ⊥

-- A rule looks up these names in order and then this target, where the names before them have led to these.
abbrev pub GoesOn : OwnPages → List Name → Target → List Named → Rule → Type 0
GoesOn pages [] target caps rule = GoesTo pages target caps rule
GoesOn pages (name ∷ names) target caps (name_rule n want rest) =
    (n ≡ name.number) × (want ≡ want_of caps name) × ((k : Named) → GoesOn pages names target (caps ++ k ∷ []) (rest k))
GoesOn pages (name ∷ names) target caps _ = ⊥

-- A rule goes by a plan.
abbrev pub GoesBy : OwnPages → Plan → Rule → Type 0
GoesBy pages plan rule = GoesOn pages plan.names plan.target [] rule
