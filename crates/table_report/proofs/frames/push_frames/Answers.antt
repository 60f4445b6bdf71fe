use Rattle.table_lines.proofs.{begins, goes_on, lines_none, lines_more}
use Rattle.table_report.proofs.frames.push_frames.Goals as goal

pub frames-init : goal.frames-init
frames-init c = begins _ _ (lines_none _)

pub frames-preserved : goal.frames-preserved
frames-preserved c = goes_on _ _ _ _ _ _ (rw c.new.ensures at c.in_ok-push_frame.ensures) c.frames.invariant (lines_more _ _)
