use Rattle.core_runs.specs.core_kernel.specs.flight_laws.specs.flight.proofs.{◌≡◌, ◌∙◌, ◌<◌, ◌^◌, false, length, map, refl, sym, ap, subst}
use Rattle.core_runs.specs.core_kernel.specs.flight_laws.specs.flight.proofs.{arith, All, flat_map, length-map}
use Rattle.core_runs.specs.{RunnerValue, IsList, decided}
use Rattle.core_runs.proofs.Wholes.{all_wait, all_back, all_free, few_replies, clash}
use Rattle.{ends_runners.specs.AreOf, ends_runners.specs.HaveMet, std.proofs.lemmas.List.Elements.All-map, ends_run.proofs.Ended.back_of}
use Rattle.{ends_run.proofs.Ended.listed}
use Rattle.ends_run.proofs.whole.make_lists.Goals as goal

pub run_cores-requires-after_bounds : goal.run_cores-requires-after_bounds
run_cores-requires-after_bounds g c κs bounds =
    let b = c.in_ok-kernel in
    all_wait b.kernel b.seats.items b.ensures.seats b.ensures.fresh
    (map (λ v. v.items) c.args.lists.now) c.in_ok-runners.runners.items c.in_ok-runners.ensures

pub returns-then-any_held-clause-free : goal.returns-then-any_held-clause-free
returns-then-any_held-clause-free g c free =
    let none = all_free (g.G.Gate.is_free c.args.gate.now) c.in_ok-runners.runners.items c.run_cores.new.runners.items free
    c.run_cores.ensures in
    clash c.any_held.result
    (c.any_held.ensures.some (subst (All (λ (r : RunnerValue). r.held ≡ false)) (sym c.deref.ensures.value) none)) c.if-any_held.true

pub decisions_of-requires : goal.decisions_of-requires
decisions_of-requires g c =
    let b = c.in_ok-kernel in
    let lists = map (λ v. v.items) c.args.lists.now in
    let one_each = length-map c.args.lists.now (λ v. v.items) ∙ c.requires.one_each ∙ ap (λ s. s.cores) (sym b.ensures.setup)
    ∙ sym b.ensures.seats.count in
    subst (All (λ (r : RunnerValue). length r.replies < 2 ^ 32)) (sym c.deref-2.ensures.value)
    (few_replies b.seats.items lists (g.G.Gate.is_free c.args.gate.now) c.in_ok-runners.runners.items c.run_cores.new.runners.items one_each
    (All-map IsList (λ v. v.items) c.args.lists.now c.requires.lists) c.in_ok-runners.ensures c.run_cores.ensures)

pub meet_all-requires-clause-seats : goal.meet_all-requires-clause-seats
meet_all-requires-clause-seats g c =
    let b = c.in_ok-kernel in
    subst (AreOf b.kernel) (sym c.in_ok-seats.ensures)
    (back_of b.kernel b.seats.items b.ensures.seats b.ensures.fresh
    (map (λ v. v.items) c.args.lists.now) c.in_ok-runners.runners.items c.in_ok-runners.ensures
    (g.G.Gate.is_free c.args.gate.now) c.run_cores.new.runners.items c.run_cores.ensures
    (subst (All (λ (r : RunnerValue). r.held ≡ false)) c.deref.ensures.value (c.any_held.ensures.none c.if-any_held.false)))

pub meet_all-requires-clause-some : goal.meet_all-requires-clause-some
meet_all-requires-clause-some g c =
    let b = c.in_ok-kernel in
    let back = all_back b.kernel b.seats.items b.ensures.seats b.ensures.fresh
    (map (λ v. v.items) c.args.lists.now) c.in_ok-runners.runners.items c.in_ok-runners.ensures
    (g.G.Gate.is_free c.args.gate.now) c.run_cores.new.runners.items c.run_cores.ensures in
    let count = ap length c.in_ok-seats.ensures ∙ back.count ∙ ap (λ s. s.cores) b.ensures.setup in
    let some = c.cores-cores.ensures.limits.some_core in
    omega arith

pub returns-clause-listed : goal.returns-clause-listed
returns-clause-listed g c =
    let b = c.in_ok-kernel in
    let lists = map (λ v. v.items) c.args.lists.now in
    let after = c.run_cores.new.runners.items in
    let whole = subst (All (λ (r : RunnerValue). r.held ≡ false)) c.deref.ensures.value (c.any_held.ensures.none c.if-any_held.false) in
    let one_each = length-map c.args.lists.now (λ v. v.items) ∙ c.requires.one_each ∙ ap (λ s. s.cores) (sym b.ensures.setup) in
    let met = subst (λ l. HaveMet l c.meet_all.new.seats.items) c.in_ok-seats.ensures c.meet_all.ensures.met in
    let cores = ap (λ s. s.cores) b.ensures.setup in
    let some = c.cores-cores.ensures.limits.some_core in
    listed b.kernel b.seats.items b.ensures.seats b.ensures.fresh lists c.in_ok-runners.runners.items c.in_ok-runners.ensures
    (g.G.Gate.is_free c.args.gate.now) after c.run_cores.ensures whole c.meet_all.new.seats.items met c.meet_all.ensures.seats (omega arith)
    c.args.setup.now record { kernel = b.kernel; seats = c.meet_all.new.seats; decisions = c.in_ok-decisions.decisions }
    b.ensures.setup one_each refl refl (c.in_ok-decisions.ensures ∙ ap (flat_map decided) c.deref-2.ensures.value)
