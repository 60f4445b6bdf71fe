-- The most own steps of a call, by its plan: three for entry and exit, those by which it asks whether its component lives, those of its
-- look-ups, and those of its act.
use Rattle.std.specs.Prelude.{◌+◌, ◌*◌, if◌then◌else◌}
use Rattle.kernel_invariant.specs.kernel_rules.specs.{ℕ, Bool, List, length, FrameKind, Make, Call, Look, Copy}
use Rattle.kernel_invariant.specs.kernel_rules.specs.{Remove, Grow, Shrink, Retype, Map, Unmap, Touch, Flush, Gate, Kill, Ret, Switch, Tick}
use Rattle.kernel_invariant.specs.kernel_rules.specs.{Transfer, Delegate, Test, Part, Replenish}
use Rattle.kernel_invariant.specs.spk_nums.specs.declared.kinds.FrameKind.TheVariants.{Untyped}
use Rattle.kernel_invariant.specs.spk_nums.specs.declared.calls.Call.TheVariants.{Make as make_call, Call as call_gate}
use Rattle.call_plans.specs.{declared.plans.Name.Name, declared.plans.Spot.Spot, declared.plans.Spot.TheVariants.Under}
use Rattle.call_plans.specs.{declared.plans.Spot.TheVariants.InRoot, declared.plans.Target.Target}
use Rattle.call_plans.specs.{declared.plans.Target.TheVariants.Nowhere, declared.plans.Target.TheVariants.Free}
use Rattle.call_plans.specs.{declared.plans.Target.TheVariants.Held, declared.plans.Target.TheVariants.Own}

-- it is asked in two steps whether a component lives
abbrev pub living_steps : Bool → ℕ
living_steps living = if living then 2 else 0

-- a place under a number is looked up in two steps, an entry of a root in one
abbrev pub spot_steps : Spot → ℕ
spot_steps (Under root n) = 2
spot_steps (InRoot root i) = 1

abbrev pub target_steps : Target → ℕ
target_steps Nowhere = 0
target_steps (Free spot) = spot_steps spot
target_steps (Held spot) = spot_steps spot
target_steps (Own v) = 2

-- the steps of the look-ups of these names and of this target
abbrev pub look_steps : List Name → Target → ℕ
look_steps names target = 2 * length names + target_steps target

-- the steps of acts, on n cores. What is counted: a scan of the other cores (n - 1) or of all flush words (n); two for a count
-- acquired and one for its commit; each load, compare and store of the act itself

-- a frame word loaded and compared; back to untyped also the counters frozen, summed, scanned for and released, 64 entries
-- judged, a stamp drawn and the frame word stored
abbrev pub retype_steps : FrameKind → ℕ → ℕ
retype_steps Untyped n = 67 + 5 * n
retype_steps _ n = 2

-- a frame word loaded, marked and stored, the target compared, a scan, the counts, and the stores of the object's words
abbrev pub make_steps : Make → ℕ → ℕ
make_steps (Make.Thread comp) n = 26 + n
make_steps (Make.Tcap sched quality) n = 15 + n
make_steps (Make.Comp table pages live) n = 17 + 2 * n
make_steps _ n = 70 + n

abbrev pub act_steps : Call → ℕ → ℕ
act_steps (Look a) n = 0
act_steps (Copy a t b rights) n = 3 + n
act_steps (Remove t b) n = 6
act_steps (Grow t i l) n = 3 + 2 * n
act_steps (Shrink t i) n = 6
act_steps (Retype r f k) n = retype_steps k n
act_steps (make_call what r f t b) n = make_steps what n
act_steps (Map p v r f w) n = 4 + 2 * n
act_steps (Unmap p v) n = 6
act_steps (Touch v) n = 0
act_steps Flush n = 2
act_steps (Gate k t b) n = 4 + n
act_steps (Kill k) n = 8
act_steps (call_gate g) n = 9
act_steps Ret n = 9
act_steps (Switch h q) n = 21
act_steps (Tick m) n = 2
act_steps (Transfer a b m) n = 21
act_steps (Delegate a b m) n = 30
act_steps (Test a b) n = 21
act_steps (Part r f k t b) n = n
act_steps (Replenish a m) n = 10
