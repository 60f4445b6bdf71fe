-- What stands at a place of a list of names, and where a target is.
use Rattle.std.specs.Prelude.{ℕ, List, [], ◌∷◌, ◌++◌, length, nat_lt, if◌then◌else◌, Option, Some, None}
use Rattle.call_plans.specs.{declared.plans.Nth.Nth, declared.plans.Nth.TheVariants.First, declared.plans.Nth.TheVariants.Second}
use Rattle.call_plans.specs.{declared.plans.Nth.TheVariants.Third, declared.plans.Nth.TheVariants.Fourth, declared.plans.Spot.Spot}
use Rattle.call_plans.specs.{declared.plans.Spot.TheVariants.Under, declared.plans.Spot.TheVariants.InRoot, declared.plans.Target.Target}
use Rattle.call_plans.specs.{declared.plans.Target.TheVariants.Nowhere, declared.plans.Target.TheVariants.Free}
use Rattle.call_plans.specs.{declared.plans.Target.TheVariants.Held, declared.plans.Target.TheVariants.Own}
use Rattle.call_plans.specs.{declared.plans.TargetKind.TargetKind}

-- the first of a list, if it has one, and the list after it
abbrev pub head : {A : Type 0} → List A → Option A
head [] = None
head (x ∷ xs) = Some x

abbrev pub tail : {A : Type 0} → List A → List A
tail [] = []
tail (x ∷ xs) = xs

-- a place counted from 0
abbrev pub index_of : Nth → ℕ
index_of First = 0
index_of Second = 1
index_of Third = 2
index_of Fourth = 3

-- what stands at this place of a list
abbrev pub at_place : {A : Type 0} → List A → Nth → Option A
at_place xs First = head xs
at_place xs Second = head (tail xs)
at_place xs Third = head (tail (tail xs))
at_place xs Fourth = head (tail (tail (tail xs)))

-- a list with one item more; four stay as they are
abbrev pub pushed : {A : Type 0} → List A → A → List A
pushed xs x = if nat_lt (length xs) 4 then xs ++ x ∷ [] else xs

-- a place under a number, or a root entry
abbrev pub kind_of_spot : Spot → TargetKind
kind_of_spot (Under root n) = TargetKind.Place
kind_of_spot (InRoot root i) = TargetKind.Root

-- where a target is; a call names no page of the caller's own pages as its target
abbrev pub kind_of_target : Target → TargetKind
kind_of_target Nowhere = TargetKind.Nowhere
kind_of_target (Free spot) = kind_of_spot spot
kind_of_target (Held spot) = kind_of_spot spot
kind_of_target (Own v) = TargetKind.Nowhere
