use Rattle.speck_run.proofs.closed.tables.Goals as goal

pub returns : goal.returns
returns c = rw c.image_of.ensures at c.report.ensures.tables
