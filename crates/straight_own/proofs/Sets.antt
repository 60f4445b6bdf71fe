-- The lemmas that each function of this crate uses.
use Rattle.straight_looks.proofs.Fitting.{act_fits, ended_went, fits_as}
use Rattle.straight_looks.proofs.Leaving.{answers}
use Rattle.straight_own.proofs.Timing.{charge_answers, charge_loaded, spent_fits, tick_entered, ticks_kept}
use Rattle.straight_own.proofs.Timing.{emptied_fits, flush_entered, flush_marked, flush_stored}
use Rattle.straight_own.proofs.Touching.{cached_fits, touch_asked, touch_cached, touch_followed, touch_look_fits, touch_met}

pub ruleset ticking = (tick_entered, charge_loaded, ticks_kept, act_fits, fits_as, ended_went)

pub ruleset charging = (spent_fits, charge_answers, act_fits, fits_as)

pub ruleset flushing = (emptied_fits, flush_entered, flush_marked, flush_stored, act_fits, fits_as, answers)

pub ruleset touching = (touch_asked, ended_went)

pub ruleset touching_root = (touch_cached, touch_followed, touch_look_fits, fits_as)

pub ruleset touching_page = (touch_met, cached_fits, touch_look_fits, fits_as)
