-- A call has fewer than a thousand steps.
use Rattle.flight_laws.specs.flight.specs.kept_facts.proofs.{ℕ, ◌<◌, ◌≤◌, arith, Option, Some, None, FrameKind, Call, Core, IsCore}
use Rattle.flight_laws.specs.flight.specs.kept_facts.proofs.{CallFits, steps_left, ActiveCall}
use Rattle.call_steps.specs.act_states.specs.stage_tcap.specs.{bound_of, Untyped, User, Kernel, Make}
use Rattle.{spk_nums.specs.Bounds.bound_of_retype, spk_nums.specs.Bounds.bound_of_make, call_steps.specs.call_stages.specs.Fits.left_for}

retype_small : (k : FrameKind) (n : ℕ) → n ≤ 8 → bound_of_retype k n < 1000
retype_small Untyped n h = omega arith
retype_small User n h = omega arith
retype_small Kernel n h = omega arith

make_small : (what : Make) (n : ℕ) → n ≤ 8 → bound_of_make what n < 1000
make_small Make.Table n h = omega arith
make_small Make.Leaf n h = omega arith
make_small Make.Pages n h = omega arith
make_small Make.Pleaf n h = omega arith
make_small (Make.Thread comp) n h = omega arith
make_small (Make.Tcap sched quality) n h = omega arith
make_small (Make.Comp table pages live) n h = omega arith

bound_small : (call : Call) (n : ℕ) → n ≤ 8 → bound_of call n < 1000
bound_small (Call.Retype r f k) n h = retype_small k n h
bound_small (Call.Make what range frame table slot) n h = make_small what n h
bound_small _ n h = omega arith

left_small : (core : Core) (o : Option ActiveCall) → core.own.layout.cores ≤ 8 → CallFits core.own o
    → left_for core.own.layout.cores o < 1000
left_small core None h fits = omega arith
left_small core (Some f) h fits = let b = bound_small f.call core.own.layout.cores h in let s = fits.steps in omega arith

pub steps_small : (core : Core) → IsCore core → steps_left core < 1000
steps_small core fits = left_small core core.active fits.own.shape.most_cores fits.active
