use Rattle.table_lines.proofs.{begins, goes_on, lines_none, lines_more}
use Rattle.origin_lines.proofs.whole.push_nodes.Goals as goal

pub nodes-init : goal.nodes-init
nodes-init c = begins _ _ (lines_none _)

pub nodes-preserved : goal.nodes-preserved
nodes-preserved c = goes_on _ _ _ _ _ _ (rw c.new.ensures at c.in_ok-push_node.ensures) c.nodes.invariant (lines_more _ _)
