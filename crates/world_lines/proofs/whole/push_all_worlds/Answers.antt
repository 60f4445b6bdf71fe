use Rattle.table_lines.proofs.{begins, goes_on, lines_none, lines_more}
use Rattle.world_lines.proofs.whole.push_all_worlds.Goals as goal

pub worlds-init : goal.worlds-init
worlds-init c = begins _ _ (lines_none _)

pub worlds-preserved : goal.worlds-preserved
worlds-preserved c = goes_on _ _ _ _ _ _ (rw c.new.ensures at c.in_ok-push_world.ensures) c.worlds.invariant (lines_more _ _)
