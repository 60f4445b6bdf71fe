use Rattle.table_lines.proofs.{begins, goes_on, lines_none, lines_more}
use Rattle.world_parts.specs.Seen.{seen}
use Rattle.world_lines.proofs.whole.push_node.Goals as goal

pub entries-init : goal.entries-init
entries-init c = begins _ _ (lines_none _)

pub entries-preserved : goal.entries-preserved
entries-preserved c =
    goes_on _ _ _ _ _ _ ((rw c.new-entry.ensures at (rw c.held_at.ensures at c.in_ok-push_gate.ensures)) (seen c.args.image.now) c.requires)
    c.entries.invariant (lines_more _ _)
