use Rattle.speck_run.proofs.ByItems.{takes_item}
use Rattle.speck_run.proofs.orders.take.Goals as goal

pub returns-clause-goes : goal.returns-clause-goes
returns-clause-goes c = takes_item c.go_on.result c.args.kernel.now c.go_on.new.self c.args.item.now c.go_on.ensures.goes
