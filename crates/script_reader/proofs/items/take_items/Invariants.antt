use Rattle.script_reader.proofs.ItemSteps.{Adds}
use Rattle.script_reader.proofs.items.take_items.Given as goal

abbrev pub invariant-items : goal.invariant-items
invariant-items l = Adds l.version l.cores l.fn.order.items l.words l.word-index l.order.items
