use Rattle.table_lines.proofs.{begins, goes_on, lines_none, lines_more}
use Rattle.world_lines.proofs.lines.push_those.Goals as goal

pub cores-init : goal.cores-init
cores-init c = begins _ _ (lines_none _)

pub cores-preserved : goal.cores-preserved
cores-preserved c =
    goes_on _ _ _ _ _ _ (rw c.new.ensures at (rw c.works_there.ensures at (rw c.from.ensures at c.in_ok-push_if.ensures)))
    c.cores.invariant (lines_more _ _)
