use Rattle.std.proofs.Common.{arith, ◌≡◌, ◌∙◌, ◌≤◌, ◌<◌, refl, true, length, get_or, ap, sym, subst}
use Rattle.ends_runners.specs.{looks_in, EndRunnerValue, AwaitsEnds, MakesAsks}
use Rattle.ends_runners.proofs.Runs.{asked_none, asked_more, stops_held, stops_last, not_true}
use Rattle.ends_runners.proofs.run.run.Goals as goal

pub loop-made-init : goal.loop-made-init
loop-made-init g c =
    let r = c.runner.inside in
    let v : EndRunnerValue = record {
      who = r.who;
      seat = r.seat;
      asks = r.asks.items;
      done = r.done.items;
      listed = r.listed;
      held = r.held;
    } in
    record {
      made = asked_none c.args.table.now v
          (subst (AwaitsEnds c.args.table.now) (sym c.runner.view_is) c.requires);
      room = omega arith;
      listed = refl;
    }

pub invariant_of-runner : goal.invariant_of-runner
invariant_of-runner g c =
    let n = c.loop-made.runner-inside in
    let i = c.loop-made.invariant in
    let more = i.room in
    let was = c.runner.invariant.room_for_all in
    let same = ap length i.made.does.list in
    let few = c.runner.invariant.few in
    let fit = c.runner.invariant.fit in
    let listed = i.listed in
    record { few = omega arith; fit = omega arith; room_for_all = omega arith }

pub invariant_of-runner-then-not-may_go : goal.invariant_of-runner-then-not-may_go
invariant_of-runner-then-not-may_go g c =
    let n = c.loop-made.runner-inside in
    let i = c.loop-made.invariant in
    let more = i.room in
    let was = c.runner.invariant.room_for_all in
    let same = ap length i.made.does.list in
    let few = c.runner.invariant.few in
    let fit = c.runner.invariant.fit in
    let listed = i.listed in
    record { few = omega arith; fit = omega arith; room_for_all = omega arith }

pub returns-then-not-may_go : goal.returns-then-not-may_go
returns-then-not-may_go g c =
    let r = c.runner.inside in
    let n = c.loop-made.runner-inside in
    let u : EndRunnerValue = record {
      who = r.who;
      seat = r.seat;
      asks = r.asks.items;
      done = r.done.items;
      listed = r.listed;
      held = r.held;
    } in
    let v : EndRunnerValue = record {
      who = n.who;
      seat = n.seat;
      asks = n.asks.items;
      done = n.done.items;
      listed = n.listed;
      held = n.held;
    } in
    let w : EndRunnerValue = record {
      who = n.who;
      seat = n.seat;
      asks = n.asks.items;
      done = n.done.items;
      listed = n.listed;
      held = true;
    } in
    let end : c.len-made-end.result ≡ length r.asks.items = c.len-made-end.ensures ∙ r.asks.ok.0 in
    let test : c.loop-made.made < c.len-made-end.result = c.loop-made-test.true in
    subst (λ x. MakesAsks (g.G.Gate.is_free c.args.gate.now) x w) c.runner.view_is
    (stops_held c.args.table.now (g.G.Gate.is_free c.args.gate.now) u v w c.loop-made.made c.loop-made.invariant.made
    (omega arith) refl (λ free. not_true c.may_go.result c.if-not-may_go.true (c.may_go.ensures free)))

pub ask-done-requires-clause-table : goal.ask-done-requires-clause-table
ask-done-requires-clause-table g c =
    let h = c.loop-made.invariant.made in
    h.does.table ∙ h.waited.table_is

pub ask-done-requires-clause-few : goal.ask-done-requires-clause-few
ask-done-requires-clause-few g c =
    let r = c.runner.inside in
    let end : c.len-made-end.result ≡ length r.asks.items = c.len-made-end.ensures ∙ r.asks.ok.0 in
    let test : c.loop-made.made < c.len-made-end.result = c.loop-made-test.true in
    let calls = c.loop-made.invariant.made.calls in
    let few = c.runner.invariant.few in
    omega arith

pub ask-done-requires-clause-frames : goal.ask-done-requires-clause-frames
ask-done-requires-clause-frames g c = c.loop-made.invariant.made.waited.frames

pub keep-requires : goal.keep-requires
keep-requires g c =
    let r = c.runner.inside in
    let i = c.loop-made.invariant in
    let end : c.len-made-end.result ≡ length r.asks.items = c.len-made-end.ensures ∙ r.asks.ok.0 in
    let test : c.loop-made.made < c.len-made-end.result = c.loop-made-test.true in
    let size = c.loop-made.runner-inside.done.ok.0 in
    let count = i.made.count in
    let more = i.room in
    let was = c.runner.invariant.room_for_all in
    omega arith

pub loop-made-preserved : goal.loop-made-preserved
loop-made-preserved g c =
    let r = c.runner.inside in
    let n = c.loop-made.runner-inside in
    let i = c.loop-made.invariant in
    let x = c.index-ask.result.now in
    let u : EndRunnerValue = record {
      who = r.who;
      seat = r.seat;
      asks = r.asks.items;
      done = r.done.items;
      listed = r.listed;
      held = r.held;
    } in
    let v : EndRunnerValue = record {
      who = n.who;
      seat = n.seat;
      asks = n.asks.items;
      done = n.done.items;
      listed = n.listed;
      held = n.held;
    } in
    let w : EndRunnerValue = record {
      who = c.ask-done.new.who;
      seat = c.ask-done.new.seat;
      asks = n.asks.items;
      done = c.keep.new.done.items;
      listed = n.listed;
      held = n.held;
    } in
    let end : c.len-made-end.result ≡ length r.asks.items = c.len-made-end.ensures ∙ r.asks.ok.0 in
    let test : c.loop-made.made < c.len-made-end.result = c.loop-made-test.true in
    let low : c.loop-made.made < length r.asks.items = omega arith in
    let at : x ≡ get_or r.asks.items c.loop-made.made x = c.index-ask.ensures
    ∙ ap (λ l. get_or l c.loop-made.made x) i.made.does.list in
    let before = i.room in
    let more = c.keep.ensures.room in
    record {
      made = asked_more c.args.table.now u v w c.loop-made.made x c.ask-done.result (looks_in v.who) (looks_in w.who)
          i.made low at c.ask-done.ensures.asked c.ask-done.ensures.makes c.ask-done.ensures.goes c.keep.ensures.items refl refl;
      room = omega arith;
      listed = i.listed;
    }

pub returns : goal.returns
returns g c =
    let r = c.runner.inside in
    let n = c.loop-made.runner-inside in
    let u : EndRunnerValue = record {
      who = r.who;
      seat = r.seat;
      asks = r.asks.items;
      done = r.done.items;
      listed = r.listed;
      held = r.held;
    } in
    let v : EndRunnerValue = record {
      who = n.who;
      seat = n.seat;
      asks = n.asks.items;
      done = n.done.items;
      listed = n.listed;
      held = n.held;
    } in
    let end : c.len-made-end.result ≡ length r.asks.items = c.len-made-end.ensures ∙ r.asks.ok.0 in
    let most : c.loop-made.made ≤ c.len-made-end.result = c.loop-made.auto.made-end in
    let test : c.len-made-end.result ≤ c.loop-made.made = c.loop-made-test.false in
    subst (λ x. MakesAsks (g.G.Gate.is_free c.args.gate.now) x v) c.runner.view_is
    (stops_last c.args.table.now (g.G.Gate.is_free c.args.gate.now) u v c.loop-made.made c.loop-made.invariant.made
    (omega arith))
