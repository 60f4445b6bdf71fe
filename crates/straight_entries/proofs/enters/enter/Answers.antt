use Rattle.std.proofs.Common.{arith}
use Rattle.straight_entries.proofs.Entries.{gate_asked, gate_entered}
use Rattle.straight_entries.proofs.enters.enter.Goals as goal

pub name-requires-clause-stands : goal.name-requires-clause-stands
name-requires-clause-stands g c =
    gate_asked c.args.own.now c.args.call.now c.in-Call.g c.none-caps.result _ (cc) (omega arith) c.none-caps.ensures
    c.in-Lives.ensures.core

pub enter_table-requires-clause-stands : goal.enter_table-requires-clause-stands
enter_table-requires-clause-stands g c =
    gate_entered c.args.own.now c.args.call.now c.in-Call.g c.none-caps.result _ c.in-Finds.cap _ _ (cc) (omega arith) c.none-caps.ensures
    c.push.ensures c.begun-invoking.ensures c.in-Finds.ensures.fits c.in-Finds.ensures.core
