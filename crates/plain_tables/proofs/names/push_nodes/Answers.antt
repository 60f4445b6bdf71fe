use Rattle.plain_tables.proofs.Common.{◌≡◌, arith, state_of, adds_none, adds_more, adds_whole}
use Rattle.plain_tables.proofs.names.push_nodes.Goals as goal

pub frames-init : goal.frames-init
frames-init c = adds_none _ _

pub frames-preserved : goal.frames-preserved
frames-preserved c = adds_more _ _ _ _ _ c.frames.invariant (rw c.new.ensures at c.in_ok-push_node.ensures)

pub returns : goal.returns
returns c = let end : c.frames.frame ≡ (state_of c.args.k.now).limits.frames = omega arith in adds_whole _ _ _ _ _ end c.frames.invariant
