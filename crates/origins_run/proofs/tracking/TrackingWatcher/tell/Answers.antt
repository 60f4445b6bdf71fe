use Rattle.origins_run.proofs.Stepping.{tracks_next}
use Rattle.origins_run.proofs.tracking.TrackingWatcher.tell.Goals as goal

pub returns : goal.returns
returns c =
    tracks_next c.args.self.now c.enter.new.self c.decide.new.self c.leave.new.self c.args.made.now c.enter.ensures c.in_ok-decide.ensures
    c.leave.ensures
