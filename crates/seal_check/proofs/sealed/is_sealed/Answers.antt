use Rattle.seal_check.proofs.Seals.{tells_seal}
use Rattle.seal_check.proofs.sealed.is_sealed.Goals as goal

pub returns-clause-reached : goal.returns-clause-reached
returns-clause-reached c = tells_seal c.args.k.now c.args.world.now c.is_all_fine.result c.is_all_fine.ensures
