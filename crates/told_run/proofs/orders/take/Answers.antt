use Rattle.told_run.proofs.Items.{takes_item}
use Rattle.told_run.proofs.orders.take.Goals as goal

pub returns-clause-goes : goal.returns-clause-goes
returns-clause-goes g c =
    takes_item g.W.Watcher.has_seen c.in_ok-move_told.field-0 record { machine = c.args.kernel.now; watcher = c.args.watcher.now }
    record { machine = c.move_told.new.kernel; watcher = c.move_told.new.watcher } c.args.item.now c.in_ok-move_told.ensures.goes
