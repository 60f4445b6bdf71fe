use Rattle.{load_maker.specs.Loads.an_item, load_maker.proofs.Repeats.Drawn}
use Rattle.load_maker.proofs.script.draw_order.Given as goal

abbrev pub invariant-items : goal.invariant-items
invariant-items l = Drawn an_item l.initial.items.items l.initial.draws.at l.counter l.items.items l.draws.at
