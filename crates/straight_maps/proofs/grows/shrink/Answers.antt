use Rattle.std.proofs.Common.{arith}
use Rattle.straight_maps.proofs.Growing.{shrink_first, shrink_none, shrink_removes}
use Rattle.straight_maps.proofs.grows.shrink.Goals as goal

pub name-requires-clause-stands : goal.name-requires-clause-stands
name-requires-clause-stands g c =
    shrink_none c.args.own.now c.args.call.now c.in-Shrink.t c.in-Shrink.i c.none-caps.result _ (cc) (omega arith) c.none-caps.ensures
    c.in-Lives.ensures.core

pub shrink_at-requires-clause-removes : goal.shrink_at-requires-clause-removes
shrink_at-requires-clause-removes g c =
    shrink_removes c.args.own.now c.args.call.now c.in-Shrink.t c.in-Shrink.i c.none-caps.result c.push.new.self c.in-Finds.cap (cc)
    c.none-caps.ensures c.push.ensures

pub shrink_at-requires-clause-stands : goal.shrink_at-requires-clause-stands
shrink_at-requires-clause-stands g c =
    shrink_first c.args.own.now c.args.call.now c.in-Shrink.t c.in-Shrink.i c.frame.result c.none-caps.result c.push.new.self
    c.in-Finds.cap c.root-look.result _ (cc) (omega arith) c.none-caps.ensures c.push.ensures c.frame.ensures c.root-look.ensures
    c.in-Finds.ensures.core
