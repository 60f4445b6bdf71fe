use Rattle.step_views.proofs.Places.{only_named}
use Rattle.step_views.proofs.names.name_at.Goals as goal

pub returns-clause-only : goal.returns-clause-only
returns-clause-only c w is_in there =
    only_named c.args.layout.now c.found_at.result c.args.place w c.frames-frames.ensures.limits c.found_at.ensures is_in there
