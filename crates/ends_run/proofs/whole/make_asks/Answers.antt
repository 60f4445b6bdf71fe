use Rattle.core_runs.specs.core_kernel.specs.flight_laws.specs.flight.proofs.{◌≡◌, ◌∙◌, ◌<◌, ◌^◌, false, length, map, refl, sym, ap, subst}
use Rattle.core_runs.specs.core_kernel.specs.flight_laws.specs.flight.proofs.{arith, All, length-map}
use Rattle.ends_runners.proofs.Runs.{FewOf, all_go, few_done}
use Rattle.ends_run.proofs.Ended.{seat_count, all_of, all_await, count, who_back, ends_back, ended}
use Rattle.{ends_runners.specs.EndRunnerValue, ends_runners.specs.sends_by, core_runs.specs.core_kernel.specs.AreAllSeats}
use Rattle.{core_runs.specs.core_kernel.specs.EndsAt, std.proofs.lemmas.List.Elements.All-map, core_runs.proofs.Wholes.clash}
use Rattle.async_ends.specs.Tables as tables
use Rattle.ends_run.proofs.whole.make_asks.Goals as goal

pub end_runners-requires-clause-seats : goal.end_runners-requires-clause-seats
end_runners-requires-clause-seats g c =
    all_of c.args.setup.now (map (λ v. v.items) c.args.lists.now) c.args.listed c.requires.listed

pub end_runners-requires-clause-one_end_each : goal.end_runners-requires-clause-one_end_each
end_runners-requires-clause-one_end_each g c =
    let t = c.in_ok-table in
    t.ensures.seats.count ∙ t.ensures.cores ∙ c.cores.ensures.value
    ∙ sym (seat_count c.args.setup.now (map (λ v. v.items) c.args.lists.now) c.args.listed c.requires.listed)

pub end_runners-requires-clause-one_list_each : goal.end_runners-requires-clause-one_list_each
end_runners-requires-clause-one_list_each g c =
    c.requires.one_each ∙ sym (seat_count c.args.setup.now (map (λ v. v.items) c.args.lists.now) c.args.listed c.requires.listed)

pub end_runners-requires-clause-one_asks_each : goal.end_runners-requires-clause-one_asks_each
end_runners-requires-clause-one_asks_each g c =
    c.requires.one_asks_each ∙ sym (seat_count c.args.setup.now (map (λ v. v.items) c.args.lists.now) c.args.listed c.requires.listed)

pub run_asks-requires-after_bounds : goal.run_asks-requires-after_bounds
run_asks-requires-after_bounds g c κs bounds =
    let t = c.in_ok-table in
    let frames = t.ensures.frames in
    let some = c.cores.ensures.limits.some_core in
    all_await c.args.setup.now (map (λ v. v.items) c.args.lists.now) c.args.listed c.requires.listed (map (λ v. v.items) c.args.asks.now)
    t.table t.ends.items t.ensures.seats t.ensures.fresh (t.ensures.cores ∙ c.cores.ensures.value) (omega arith)
    (length-map c.args.asks.now (λ v. v.items) ∙ c.requires.one_asks_each) (omega arith)
    c.in_ok-runners.runners.items c.in_ok-runners.ensures

pub returns-then-any_stopped-clause-free : goal.returns-then-any_stopped-clause-free
returns-then-any_stopped-clause-free g c free =
    let none = all_go (g.G.Gate.is_free c.args.gate.now) c.in_ok-runners.runners.items c.run_asks.new.runners.items free
    c.run_asks.ensures in
    clash c.any_stopped.result
    (c.any_stopped.ensures.some (subst (All (λ (r : EndRunnerValue). r.held ≡ false)) (sym c.deref.ensures.value) none))
    c.if-any_stopped.true

pub sent_by-requires-clause-some : goal.sent_by-requires-clause-some
sent_by-requires-clause-some g c =
    let t = c.in_ok-table in
    let frames = t.ensures.frames in
    let limits = c.cores.ensures.limits in
    let some = limits.some_core in
    let most = limits.most_cores in
    let size = count c.args.setup.now (map (λ v. v.items) c.args.lists.now) c.args.listed c.requires.listed
    (map (λ v. v.items) c.args.asks.now) t.table t.ends.items t.ensures.seats t.ensures.fresh (t.ensures.cores ∙ c.cores.ensures.value)
    (omega arith) (length-map c.args.asks.now (λ v. v.items) ∙ c.requires.one_asks_each) (omega arith)
    c.in_ok-runners.runners.items c.in_ok-runners.ensures
    (g.G.Gate.is_free c.args.gate.now) c.run_asks.new.runners.items c.run_asks.ensures in
    let same = ap length c.deref-2.ensures.value in
    omega arith

pub sent_by-requires-clause-few : goal.sent_by-requires-clause-few
sent_by-requires-clause-few g c =
    let t = c.in_ok-table in
    let one_each = length-map c.args.asks.now (λ v. v.items) ∙ c.requires.one_asks_each
    ∙ sym (seat_count c.args.setup.now (map (λ v. v.items) c.args.lists.now) c.args.listed c.requires.listed) in
    subst (All (λ (r : EndRunnerValue). length r.done < 2 ^ 32)) (sym c.deref-2.ensures.value)
    (few_done c.args.listed.seats.items t.ends.items (map (λ v. v.items) c.args.asks.now) (g.G.Gate.is_free c.args.gate.now)
    c.in_ok-runners.runners.items c.run_asks.new.runners.items one_each
    (All-map (FewOf 4194304) (λ v. v.items) c.args.asks.now c.requires.few_asks) c.in_ok-runners.ensures c.run_asks.ensures)

pub close-requires : goal.close-requires
close-requires g c =
    let t = c.in_ok-table in
    let frames = t.ensures.frames in
    let some = c.cores.ensures.limits.some_core in
    subst (tables.AreAllSeats t.table) (sym c.in_ok-parts.ensures.ends_are)
    (ends_back c.args.setup.now (map (λ v. v.items) c.args.lists.now) c.args.listed c.requires.listed
    (map (λ v. v.items) c.args.asks.now) t.table t.ends.items t.ensures.seats t.ensures.fresh (t.ensures.cores ∙ c.cores.ensures.value)
    (omega arith) (length-map c.args.asks.now (λ v. v.items) ∙ c.requires.one_asks_each) (omega arith)
    c.in_ok-runners.runners.items c.in_ok-runners.ensures
    (g.G.Gate.is_free c.args.gate.now) c.run_asks.new.runners.items c.run_asks.ensures)

pub finish-requires : goal.finish-requires
finish-requires g c =
    let t = c.in_ok-table in
    let frames = t.ensures.frames in
    let some = c.cores.ensures.limits.some_core in
    subst (AreAllSeats c.args.listed.kernel) (sym c.in_ok-parts.ensures.seats_are)
    (who_back c.args.setup.now (map (λ v. v.items) c.args.lists.now) c.args.listed c.requires.listed
    (map (λ v. v.items) c.args.asks.now) t.table t.ends.items t.ensures.seats t.ensures.fresh (t.ensures.cores ∙ c.cores.ensures.value)
    (omega arith) (length-map c.args.asks.now (λ v. v.items) ∙ c.requires.one_asks_each) (omega arith)
    c.in_ok-runners.runners.items c.in_ok-runners.ensures
    (g.G.Gate.is_free c.args.gate.now) c.run_asks.new.runners.items c.run_asks.ensures)

pub returns-clause-made : goal.returns-clause-made
returns-clause-made g c =
    let t = c.in_ok-table in
    let frames = t.ensures.frames in
    let some = c.cores.ensures.limits.some_core in
    let p = c.in_ok-parts in
    let after = c.run_asks.new.runners.items in
    let closed = c.in_ok-_closed._closed in
    let end = subst (λ l. EndsAt c.args.listed.kernel l closed.words.items closed.ends.items) p.ensures.seats_are
    c.in_ok-_closed.ensures.ends in
    let counts = subst (λ l. tables.EndsAt t.table l c.in_ok-left.left.items) p.ensures.ends_are c.in_ok-left.ensures in
    let whole = subst (All (λ (r : EndRunnerValue). r.held ≡ false)) c.deref.ensures.value
    (c.any_stopped.ensures.none c.if-any_stopped.false) in
    ended c.args.setup.now (map (λ v. v.items) c.args.lists.now) c.args.listed c.requires.listed
    (map (λ v. v.items) c.args.asks.now) t.table t.ends.items t.ensures.seats t.ensures.fresh (t.ensures.cores ∙ c.cores.ensures.value)
    (omega arith) (length-map c.args.asks.now (λ v. v.items) ∙ c.requires.one_asks_each) (omega arith)
    c.in_ok-runners.runners.items c.in_ok-runners.ensures
    (g.G.Gate.is_free c.args.gate.now) after c.run_asks.ensures
    closed.words.items closed.ends.items end c.in_ok-left.left.items counts whole
    record { decisions = c.args.listed.decisions; done = p.parts.done; sent = c.in_ok-sent.sent; left = c.in_ok-left.left }
    (All-map (FewOf 4194304) (λ v. v.items) c.args.asks.now c.requires.few_asks) refl p.ensures.done_are
    (λ f. c.in_ok-sent.ensures.sent f ∙ ap (λ l. sends_by l f) c.deref-2.ensures.value) c.in_ok-sent.ensures.size refl t.ensures.frames
