use Rattle.straight_entries.proofs.Entries.{stamp_drawn}
use Rattle.straight_entries.proofs.leaves.leave_counted.Goals as goal

pub pop-requires-clause-stores : goal.pop-requires-clause-stores
pop-requires-clause-stores g c =
    stamp_drawn c.args.own.now c.change.new.self _ c.args.comp c.args.table c.args.pages c.drawn-stamp.result _ c.args.returning.now
    c.args.count.now _ _ c.requires.acts c.make.ensures.goes c.requires.at c.drawn-stamp.ensures c.saturating_sub.ensures c.change.ensures
