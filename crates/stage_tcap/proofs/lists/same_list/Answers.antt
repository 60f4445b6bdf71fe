use Rattle.stage_tcap.proofs.ListLemmas.{same_by}
use Rattle.stage_tcap.proofs.lists.same_list.Goals as goal

pub returns : goal.returns
returns c = same_by c.agrees.result c.args.a.now c.args.b.now c.agrees.ensures
