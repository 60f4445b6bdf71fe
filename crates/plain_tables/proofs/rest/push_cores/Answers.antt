use Rattle.plain_tables.proofs.Common.{begins, goes_on, lines_none, lines_more}
use Rattle.plain_tables.proofs.rest.push_cores.Goals as goal

pub cores-init : goal.cores-init
cores-init c = begins _ _ (lines_none _)

pub cores-preserved : goal.cores-preserved
cores-preserved c = goes_on _ _ _ _ _ _ (rw c.new.ensures at c.in_ok-push_core.ensures) c.cores.invariant (lines_more _ _)
