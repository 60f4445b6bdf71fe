use Rattle.world_parts.specs.{Seen.seen, Partitions.world_in}
use Rattle.world_parts.proofs.Steps.{frames_none, frames_more}
use Rattle.world_parts.proofs.joining.join_all.Goals as goal

pub frames-init : goal.frames-init
frames-init c = frames_none (seen c.args.image.now) (world_in c.args.parts.now)

pub frames-preserved : goal.frames-preserved
frames-preserved c = frames_more (seen c.args.image.now) c.frames.frame _ _ _ c.frames.invariant (rw c.new.ensures at c.join_frame.ensures)
