use Rattle.std.proofs.Common.{[], refl}
use Rattle.seat_laws.proofs.call_and_tell.Goals as goal

pub returns-clause-time : goal.returns-clause-time
returns-clause-time c = c.call.ensures.seen.history.time_is_kept [] _ refl

pub returns-clause-threads : goal.returns-clause-threads
returns-clause-threads c = c.call.ensures.seen.history.threads_run_apart [] _ refl

pub returns-clause-translations : goal.returns-clause-translations
returns-clause-translations c = c.call.ensures.seen.history.cached_frames_stay [] _ refl
