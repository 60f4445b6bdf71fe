use Rattle.world_parts.proofs.FinestLaw.{tells_finest}
use Rattle.world_parts.proofs.joining.parts_of.Goals as goal

pub returns : goal.returns
returns c =
    tells_finest c.args.image.now c.alone-parts.result c.join_all.new.parts c.alone-parts.ensures c.first-first.ensures c.join_all.ensures
