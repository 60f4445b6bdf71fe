use Rattle.core_kernel.specs.flight_laws.specs.flight.proofs.{arith, ◌≡◌, ◌∙◌, ◌≤◌, ◌<◌, refl, true, length, get_or, vec_capacity, ap, sym}
use Rattle.core_kernel.specs.flight_laws.specs.flight.proofs.{subst, InLimits}
use Rattle.core_runs.specs.{RunnerValue, MakesCalls}
use Rattle.core_runs.proofs.Lanes.{made_none, made_more, stops_held, stops_last, not_true}
use Rattle.{std.proofs.lemmas.List.Elements.All-get_or, core_runs.specs.Runs.IsRunner}
use Rattle.core_runs.proofs.run.run.Goals as goal

pub loop-made-init : goal.loop-made-init
loop-made-init g c =
    let r = c.runner.inside in
    let v : RunnerValue = record { seat = r.seat; calls = r.calls.items; replies = r.replies.items; held = r.held } in
    record {
      made = made_none v (ap (λ x. x.replies) c.runner.view_is ∙ c.requires.none) (ap (λ x. x.held) c.runner.view_is
          ∙ c.requires.free) c.front-core.ensures.seen;
      room = omega arith;
    }

pub invariant_of-runner : goal.invariant_of-runner
invariant_of-runner g c =
    let i = c.loop-made.invariant in
    let more = i.room in
    let was = c.runner.invariant.room_for_all in
    subst (λ l. IsRunner l (vec_capacity c.loop-made.runner-inside.replies)) (sym i.made.list) record {
      fit = c.runner.invariant.fit;
      few = c.runner.invariant.few;
      room_for_all = omega arith;
    }

pub invariant_of-runner-then-not-may_go : goal.invariant_of-runner-then-not-may_go
invariant_of-runner-then-not-may_go g c =
    let i = c.loop-made.invariant in
    let more = i.room in
    let was = c.runner.invariant.room_for_all in
    subst (λ l. IsRunner l (vec_capacity c.loop-made.runner-inside.replies)) (sym i.made.list) record {
      fit = c.runner.invariant.fit;
      few = c.runner.invariant.few;
      room_for_all = omega arith;
    }

pub returns-then-not-may_go : goal.returns-then-not-may_go
returns-then-not-may_go g c =
    let r = c.runner.inside in
    let n = c.loop-made.runner-inside in
    let u : RunnerValue = record { seat = r.seat; calls = r.calls.items; replies = r.replies.items; held = r.held } in
    let v : RunnerValue = record { seat = n.seat; calls = n.calls.items; replies = n.replies.items; held = n.held } in
    let w : RunnerValue = record { seat = n.seat; calls = n.calls.items; replies = n.replies.items; held = true } in
    let end : c.len-made-end.result ≡ length r.calls.items = c.len-made-end.ensures ∙ r.calls.ok.0 in
    let test : c.loop-made.made < c.len-made-end.result = c.loop-made-test.true in
    subst (λ x. MakesCalls (g.G.Gate.is_free c.args.gate.now) x w) c.runner.view_is
    (stops_held (g.G.Gate.is_free c.args.gate.now) u v w c.loop-made.made c.loop-made.invariant.made (omega arith) refl
    (λ free. not_true c.may_go.result c.if-not-may_go.true (c.may_go.ensures free)))

pub call-reply-requires-clause-kernel : goal.call-reply-requires-clause-kernel
call-reply-requires-clause-kernel g c = c.loop-made.invariant.made.kernel ∙ ap (λ x. x.seat.kernel) c.runner.view_is ∙ c.requires.kernel

pub call-reply-requires-clause-limits : goal.call-reply-requires-clause-limits
call-reply-requires-clause-limits g c =
    let r = c.runner.inside in
    let x = c.index.result.now in
    let end : c.len-made-end.result ≡ length r.calls.items = c.len-made-end.ensures ∙ r.calls.ok.0 in
    let test : c.loop-made.made < c.len-made-end.result = c.loop-made-test.true in
    let low : c.loop-made.made < length r.calls.items = omega arith in
    let at : x ≡ get_or r.calls.items c.loop-made.made x = c.index.ensures
    ∙ ap (λ l. get_or l c.loop-made.made x) c.loop-made.invariant.made.list in
    subst InLimits (sym at) (All-get_or InLimits r.calls.items c.loop-made.made x low c.runner.invariant.fit)

pub keep-requires : goal.keep-requires
keep-requires g c =
    let r = c.runner.inside in
    let i = c.loop-made.invariant in
    let end : c.len-made-end.result ≡ length r.calls.items = c.len-made-end.ensures ∙ r.calls.ok.0 in
    let test : c.loop-made.made < c.len-made-end.result = c.loop-made-test.true in
    let size = c.loop-made.runner-inside.replies.ok.0 in
    let count = i.made.count in
    let more = i.room in
    let was = c.runner.invariant.room_for_all in
    omega arith

pub loop-made-preserved : goal.loop-made-preserved
loop-made-preserved g c =
    let r = c.runner.inside in
    let n = c.loop-made.runner-inside in
    let i = c.loop-made.invariant in
    let x = c.index.result.now in
    let u : RunnerValue = record { seat = r.seat; calls = r.calls.items; replies = r.replies.items; held = r.held } in
    let v : RunnerValue = record { seat = n.seat; calls = n.calls.items; replies = n.replies.items; held = n.held } in
    let w : RunnerValue = record {
      seat = c.call-reply.new.seat;
      calls = n.calls.items;
      replies = c.keep.new.replies.items;
      held = n.held;
    } in
    let end : c.len-made-end.result ≡ length r.calls.items = c.len-made-end.ensures ∙ r.calls.ok.0 in
    let test : c.loop-made.made < c.len-made-end.result = c.loop-made-test.true in
    let low : c.loop-made.made < length r.calls.items = omega arith in
    let at : x ≡ get_or r.calls.items c.loop-made.made x = c.index.ensures ∙ ap (λ l. get_or l c.loop-made.made x) i.made.list in
    let before = i.room in
    let more = c.keep.ensures.room in
    record {
      made = made_more u v w c.loop-made.made x c.call-reply.result i.made low at c.call-reply.ensures.makes c.call-reply.ensures.seen
          c.keep.ensures.items refl refl;
      room = omega arith;
    }

pub returns : goal.returns
returns g c =
    let r = c.runner.inside in
    let n = c.loop-made.runner-inside in
    let u : RunnerValue = record { seat = r.seat; calls = r.calls.items; replies = r.replies.items; held = r.held } in
    let v : RunnerValue = record { seat = n.seat; calls = n.calls.items; replies = n.replies.items; held = n.held } in
    let end : c.len-made-end.result ≡ length r.calls.items = c.len-made-end.ensures ∙ r.calls.ok.0 in
    let most : c.loop-made.made ≤ c.len-made-end.result = c.loop-made.auto.made-end in
    let test : c.len-made-end.result ≤ c.loop-made.made = c.loop-made-test.false in
    subst (λ x. MakesCalls (g.G.Gate.is_free c.args.gate.now) x v) c.runner.view_is
    (stops_last (g.G.Gate.is_free c.args.gate.now) u v c.loop-made.made c.loop-made.invariant.made (omega arith))
