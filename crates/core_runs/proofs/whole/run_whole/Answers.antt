use Rattle.core_kernel.specs.flight_laws.specs.flight.proofs.{◌≡◌, ◌∙◌, ◌<◌, ◌^◌, false, [], length, map, sym, ap, subst, All, flat_map}
use Rattle.core_runs.specs.{RunnerValue, IsList, AreMade, decided}
use Rattle.core_kernel.specs.{AreAllSeats, EndsAt}
use Rattle.core_runs.proofs.Wholes.{all_wait, all_back, all_free, few_replies, are_made, clash}
use Rattle.{core_kernel.specs.flight_laws.specs.flight.proofs.length-map, std.proofs.lemmas.List.Elements.All-map}
use Rattle.core_runs.proofs.whole.run_whole.Goals as goal

pub run_cores-requires-after_bounds : goal.run_cores-requires-after_bounds
run_cores-requires-after_bounds g c κs bounds =
    let b = c.in_ok-kernel in
    all_wait b.kernel b.seats.items b.ensures.seats b.ensures.fresh
    (map (λ v. v.items) c.args.lists.now) c.in_ok-runners.runners.items c.in_ok-runners.ensures

pub returns-then-any_held-clause-free : goal.returns-then-any_held-clause-free
returns-then-any_held-clause-free g c free =
    let none = all_free (g.G.Gate.is_free c.args.gate.now) c.in_ok-runners.runners.items c.run_cores.new.runners.items free
    c.run_cores.ensures in
    clash c.any_held.result
    (c.any_held.ensures.some (subst (All (λ (r : RunnerValue). r.held ≡ false)) (sym c.deref.ensures.value) none)) c.if-any_held.true

pub decisions_of-requires : goal.decisions_of-requires
decisions_of-requires g c =
    let b = c.in_ok-kernel in
    let lists = map (λ v. v.items) c.args.lists.now in
    let one_each = length-map c.args.lists.now (λ v. v.items) ∙ c.requires.one_each ∙ ap (λ s. s.cores) (sym b.ensures.setup)
    ∙ sym b.ensures.seats.count in
    subst (All (λ (r : RunnerValue). length r.replies < 2 ^ 32)) (sym c.deref-2.ensures.value)
    (few_replies b.seats.items lists (g.G.Gate.is_free c.args.gate.now) c.in_ok-runners.runners.items c.run_cores.new.runners.items one_each
    (All-map IsList (λ v. v.items) c.args.lists.now c.requires.lists) c.in_ok-runners.ensures c.run_cores.ensures)

pub finish-requires : goal.finish-requires
finish-requires g c =
    let b = c.in_ok-kernel in
    subst (AreAllSeats b.kernel) (sym c.in_ok-seats.ensures)
    (all_back b.kernel b.seats.items b.ensures.seats b.ensures.fresh
    (map (λ v. v.items) c.args.lists.now) c.in_ok-runners.runners.items c.in_ok-runners.ensures
    (g.G.Gate.is_free c.args.gate.now) c.run_cores.new.runners.items c.run_cores.ensures)

pub returns-clause-made : goal.returns-clause-made
returns-clause-made g c =
    let b = c.in_ok-kernel in
    let lists = map (λ v. v.items) c.args.lists.now in
    let after = c.run_cores.new.runners.items in
    let closed = c.in_ok-closed.closed in
    let end = subst (λ l. EndsAt b.kernel l closed.words.items closed.ends.items) c.in_ok-seats.ensures c.in_ok-closed.ensures.ends in
    let whole = subst (All (λ (r : RunnerValue). r.held ≡ false)) c.deref.ensures.value (c.any_held.ensures.none c.if-any_held.false) in
    let one_each = length-map c.args.lists.now (λ v. v.items) ∙ c.requires.one_each ∙ ap (λ s. s.cores) (sym b.ensures.setup) in
    subst (λ s. AreMade s lists record { decisions = c.in_ok-decisions.decisions; closed = closed }) b.ensures.setup
    (are_made b.kernel b.seats.items b.ensures.seats b.ensures.fresh lists c.in_ok-runners.runners.items c.in_ok-runners.ensures
    (g.G.Gate.is_free c.args.gate.now) after c.run_cores.ensures
    closed.words.items closed.ends.items end whole one_each record { decisions = c.in_ok-decisions.decisions; closed = closed }
    (c.in_ok-decisions.ensures ∙ ap (flat_map decided) c.deref-2.ensures.value) c.in_ok-closed.ensures.layout (λ i. closed.words.items)
    (λ i. closed.ends.items))
