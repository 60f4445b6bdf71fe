use Rattle.seq_time.proofs.Alike.{alike}
use Rattle.seq_time.proofs.budgets.are_alike.Goals as goal

pub returns : goal.returns
returns c = alike c.args.a.now c.args.b.now c.agrees.result c.agrees.ensures
