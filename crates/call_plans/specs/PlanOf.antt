-- The plan of each call.
use Rattle.std.specs.Prelude.{◌∷◌}
use Rattle.kernel_invariant.specs.kernel_rules.specs.{ℕ, true, false, List, [], right_to_copy, right_to_use, both, FrameKind, Kind}
use Rattle.kernel_invariant.specs.kernel_rules.specs.{Make, Call, Look, Copy, Remove, Grow, Shrink, Retype, Map, Unmap, Touch, Flush, Gate}
use Rattle.kernel_invariant.specs.kernel_rules.specs.{Kill, Ret, Switch, Tick, Transfer, Delegate, Test, Part, Replenish}
use Rattle.kernel_invariant.specs.spk_nums.specs.declared.calls.Call.TheVariants.{Make as make_call, Call as call_gate}
use Rattle.call_plans.specs.{declared.plans.Nth.Nth, declared.plans.Nth.TheVariants.First, declared.plans.Nth.TheVariants.Second}
use Rattle.call_plans.specs.{declared.plans.Wanted.TheVariants.Any, declared.plans.Wanted.TheVariants.Only}
use Rattle.call_plans.specs.{declared.plans.Wanted.TheVariants.Root, declared.plans.Wanted.TheVariants.LeafOf, declared.plans.Name.Name}
use Rattle.call_plans.specs.{declared.plans.Spot.Spot, declared.plans.Spot.TheVariants.Under, declared.plans.Spot.TheVariants.InRoot}
use Rattle.call_plans.specs.{declared.plans.Target.TheVariants.Nowhere, declared.plans.Target.TheVariants.Free}
use Rattle.call_plans.specs.{declared.plans.Target.TheVariants.Held, declared.plans.Target.TheVariants.Own, declared.plans.Decides.Decides}
use Rattle.{kernel_invariant.specs.spk_nums.specs.Rights.neither}
use Rattle.{kernel_invariant.specs.spk_nums.specs.declared.kinds.FrameKind.TheVariants.Untyped, call_plans.specs.declared.plans.Plan.Plan}

-- a name of this number, which is to lead to any capability, and needs these rights of it
abbrev pub any_cap : ℕ → ℕ → Name
any_cap needs n = record { number = n; wanted = Any; needs = record { 0 = needs } }

-- a name of this number, which is to lead to a root, or to a capability of this kind, to be used
abbrev pub a_root : ℕ → Name
a_root n = record { number = n; wanted = Root; needs = record { 0 = right_to_use } }

abbrev pub of_kind : Kind → ℕ → Name
of_kind kind n = record { number = n; wanted = Only kind; needs = record { 0 = right_to_use } }

-- a name of this number, which is to lead to a leaf of the kind that the first name's root takes, to be used
abbrev pub a_leaf : ℕ → Name
a_leaf n = record { number = n; wanted = LeafOf First; needs = record { 0 = right_to_use } }

-- a name of this number, which is to lead to a range of which a part is handed out, and needs both rights of it
abbrev pub a_whole : ℕ → Name
a_whole n = record { number = n; wanted = Only Kind.Range; needs = record { 0 = both } }

-- a call with these names that fills the free place of this number in the table to which a name leads, acquiring so many counts
abbrev pub fills : List Name → Nth → ℕ → ℕ → Plan
fills names root n pins = record { living = true; names = names; target = Free (Under root n); pins = pins; decides = Decides.Target }

-- a call with one name and a target to be held, whose removal acquires the count of what is held and draws a stamp
abbrev pub removes : Name → Spot → Plan
removes name spot = record { living = true; names = name ∷ []; target = Held spot; pins = 1; decides = Decides.Draw }

-- a call with these names and no target
abbrev pub names_alone : List Name → ℕ → Decides → Plan
names_alone names pins decides = record { living = true; names = names; target = Nowhere; pins = pins; decides = decides }

-- a call on the core or its thread, which looks nothing up and asks of no component that it lives
abbrev pub of_core : ℕ → Decides → Plan
of_core pins decides = record { living = false; names = []; target = Nowhere; pins = pins; decides = decides }

-- a call on two temporal capabilities
abbrev pub on_two_tcaps : ℕ → ℕ → Decides → Plan
on_two_tcaps a b decides = names_alone (of_kind Kind.Tcap a ∷ of_kind Kind.Tcap b ∷ []) 0 decides

-- the plan of a `retype`: back to untyped it acquires the counts of the object's own references
abbrev pub plan_of_retype : FrameKind → ℕ → Plan
plan_of_retype Untyped r = names_alone (of_kind Kind.Range r ∷ []) 2 Decides.Draw
plan_of_retype _ r = names_alone (of_kind Kind.Range r ∷ []) 0 Decides.FrameWord

-- the plan of a `make`: it acquires the count of the frame, and those of what the object is to refer to
abbrev pub plan_of_make : Make → ℕ → ℕ → ℕ → Plan
plan_of_make (Make.Thread comp) r t b = fills (of_kind Kind.Range r ∷ of_kind Kind.Table t ∷ of_kind Kind.Comp comp ∷ []) Second b 2
plan_of_make (Make.Comp table pages live) r t b =
    fills (of_kind Kind.Range r ∷ of_kind Kind.Table t ∷ of_kind Kind.Table table ∷ of_kind Kind.Pages pages ∷ []) Second b 3
plan_of_make what r t b = fills (of_kind Kind.Range r ∷ of_kind Kind.Table t ∷ []) Second b 1

-- the plan of a call
abbrev pub plan_for : Call → Plan
plan_for (Look a) = names_alone (any_cap neither a ∷ []) 0 Decides.LeafEntry
plan_for (Copy a t b rights) = fills (any_cap right_to_copy a ∷ of_kind Kind.Table t ∷ []) Second b 1
plan_for (Remove t b) = removes (of_kind Kind.Table t) (Under First b)
plan_for (Grow t i l) =
    record { living = true; names = a_root t ∷ a_leaf l ∷ []; target = Free (InRoot First i); pins = 1; decides = Decides.Target }
plan_for (Shrink t i) = removes (a_root t) (InRoot First i)
plan_for (Retype r f k) = plan_of_retype k r
plan_for (make_call what r f t b) = plan_of_make what r t b
plan_for (Map p v r f w) = fills (of_kind Kind.Pages p ∷ of_kind Kind.Range r ∷ []) First v 1
plan_for (Unmap p v) = removes (of_kind Kind.Pages p) (Under First v)
plan_for (Touch v) = record { living = true; names = []; target = Own v; pins = 0; decides = Decides.Translation }
plan_for Flush = of_core 0 Decides.Clock
plan_for (Gate k t b) = fills (of_kind Kind.Comp k ∷ of_kind Kind.Table t ∷ []) Second b 1
plan_for (Kill k) = names_alone (of_kind Kind.Comp k ∷ []) 1 Decides.Draw
plan_for (call_gate g) = names_alone (of_kind Kind.Gate g ∷ []) 1 Decides.LiveWord
plan_for Ret = of_core 1 Decides.Draw
plan_for (Switch h q) = names_alone (of_kind Kind.Thread h ∷ of_kind Kind.Tcap q ∷ []) 4 Decides.Draw
plan_for (Tick n) = of_core 0 Decides.Head
plan_for (Transfer a b m) = on_two_tcaps a b Decides.HeadB
plan_for (Delegate a b m) = on_two_tcaps a b Decides.HeadB
plan_for (Test a b) = on_two_tcaps a b Decides.HeadBAgain
plan_for (Part r f n t b) = fills (a_whole r ∷ of_kind Kind.Table t ∷ []) Second b 0
plan_for (Replenish a m) = names_alone (of_kind Kind.Tcap a ∷ []) 0 Decides.Head
