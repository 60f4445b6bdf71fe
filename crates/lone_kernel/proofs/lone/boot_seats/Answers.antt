use Rattle.flight_laws.specs.flight.proofs.{◌≡◌, ◌∙◌, ◌<◌, ℕ, ap, arith, map, length, get_or, subst, length-map, started}
use Rattle.lone_kernel.proofs.Boot.{fresh_none, fresh_more, fresh_is, fresh_all}
use Rattle.lone_kernel.proofs.lone.boot_seats.Goals as goal

pub loop-core-init : goal.loop-core-init
loop-core-init c = record
    { fresh = fresh_none c.args.setup.now (map (λ v. v.items) c.args.lists.now) c.in_ok-seats.seats.items c.in_ok-seats.ensures.items }

pub loop-core-preserved : goal.loop-core-preserved
loop-core-preserved c =
    let v = c.cores-cores.ensures.value in
    let r = c.requires in
    let t = c.loop-core-test.true in
    let n = c.from-in-loop-core.ensures in
    let here : c.loop-core.core < length c.args.lists.now = omega arith in
    let item = subst (λ (k : ℕ). c.index-lists-from.result ≡ get_or c.args.lists.now k c.index-lists-from.result) n c.index-lists-from.is in
    record {
      fresh = fresh_more c.args.setup.now
          (map (λ v. v.items) c.args.lists.now) c.loop-core.seats.items c.push.new.self.items c.loop-core.core _
          c.loop-core.invariant.fresh c.in_ok-push.ensures.items
          (fresh_is (λ v. v.items) c.args.setup.now c.args.lists.now c.loop-core.core c.len.result c.index-lists-from.result c.start.result
          here item (c.len.ensures ∙ c.index-lists-from.result.ok.0)
          (c.start.ensures.state ∙ ap (λ (k : ℕ). started k c.args.setup.now) c.new.ensures));
    }

pub returns : goal.returns
returns c =
    let v = c.cores-cores.ensures.value in
    let r = c.requires in
    let f = c.loop-core-test.false in
    let e = c.loop-core.auto.core-end in
    let l = length-map c.args.lists.now (λ v. v.items) in
    fresh_all c.args.setup.now (map (λ v. v.items) c.args.lists.now) c.loop-core.core c.loop-core.seats.items
    (omega arith) c.loop-core.invariant.fresh
