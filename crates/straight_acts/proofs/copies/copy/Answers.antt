use Rattle.std.proofs.Common.{arith}
use Rattle.straight_acts.proofs.Copying.{copy_fills, copy_first, copy_second}
use Rattle.straight_acts.proofs.copies.copy.Goals as goal

pub name-requires-2-clause-stands : goal.name-requires-2-clause-stands
name-requires-2-clause-stands g c =
    copy_first c.args.own.now c.args.call.now c.in-Copy.a c.in-Copy.t c.in-Copy.b c.in-Copy.rights c.none-caps.result _ c.in-Finds.cap _
    (cc) (omega arith) c.none-caps.ensures c.push.ensures c.in-Finds.ensures.core

pub copy_into-requires-clause-fills : goal.copy_into-requires-clause-fills
copy_into-requires-clause-fills g c =
    copy_fills c.args.own.now c.args.call.now c.in-Copy.a c.in-Copy.t c.in-Copy.b c.in-Copy.rights c.none-caps.result c.push.new.self _
    c.in-Finds.cap c.in-Finds-name.cap _ (cc) c.none-caps.ensures c.push.ensures c.push-2.ensures c.keep.ensures

pub copy_into-requires-clause-stands : goal.copy_into-requires-clause-stands
copy_into-requires-clause-stands g c =
    copy_second c.args.own.now c.args.call.now c.in-Copy.a c.in-Copy.t c.in-Copy.b _ c.in-Copy.rights c.none-caps.result c.push.new.self _
    c.in-Finds.cap c.in-Finds-name.cap _ (cc) (omega arith) c.none-caps.ensures c.push.ensures c.push-2.ensures c.frame.ensures
    c.in-Finds-name.ensures.core
