use Rattle.plain_tables.proofs.Common.{begins, goes_on, lines_none, lines_more}
use Rattle.plain_tables.proofs.frames.push_frames.Goals as goal

pub frames-init : goal.frames-init
frames-init c = begins _ _ (lines_none _)

pub frames-preserved : goal.frames-preserved
frames-preserved c = goes_on _ _ _ _ _ _ (rw (c.new.ensures, c.from.ensures) at c.in_ok-push_number.ensures) c.frames.invariant
    (lines_more _ _)
