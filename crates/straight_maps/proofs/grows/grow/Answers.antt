use Rattle.std.proofs.Common.{arith}
use Rattle.straight_maps.proofs.Growing.{grow_fills, grow_first, grow_none, grow_second}
use Rattle.straight_maps.proofs.grows.grow.Goals as goal

pub name-requires-clause-stands : goal.name-requires-clause-stands
name-requires-clause-stands g c =
    grow_none c.args.own.now c.args.call.now c.in-Grow.t c.in-Grow.i c.in-Grow.l c.none-caps.result _ (cc) (omega arith)
    c.none-caps.ensures c.in-Lives.ensures.core

pub name-requires-2-clause-stands : goal.name-requires-2-clause-stands
name-requires-2-clause-stands g c =
    grow_first c.args.own.now c.args.call.now c.in-Grow.t c.in-Grow.i c.in-Grow.l c.none-caps.result c.push.new.self c.in-Finds.cap _ (cc)
    (omega arith) c.none-caps.ensures c.push.ensures c.in-Finds.ensures.core

pub grow_at-requires-clause-fills : goal.grow_at-requires-clause-fills
grow_at-requires-clause-fills g c =
    grow_fills c.args.own.now c.args.call.now c.in-Grow.t c.in-Grow.i c.in-Grow.l c.frame-2.result c.none-caps.result c.push.new.self
    c.push-2.new.self c.in-Finds.cap c.in-Finds-name.cap c.new-link.result c.is_pages.result (cc) c.none-caps.ensures c.push.ensures
    c.push-2.ensures c.frame-2.ensures c.new-link.ensures c.is_pages.ensures

pub grow_at-requires-clause-stands : goal.grow_at-requires-clause-stands
grow_at-requires-clause-stands g c =
    grow_second c.args.own.now c.args.call.now c.in-Grow.t c.in-Grow.i c.in-Grow.l c.frame.result c.none-caps.result c.push.new.self
    c.push-2.new.self c.in-Finds.cap c.in-Finds-name.cap c.root-look.result _ (cc) (omega arith) c.none-caps.ensures c.push.ensures
    c.push-2.ensures c.frame.ensures c.root-look.ensures c.in-Finds-name.ensures.core
