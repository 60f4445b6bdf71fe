-- The lemmas that each function of this crate uses.
use Rattle.straight_acts.proofs.Copying.{copy_asked, copy_fills, copy_first, copy_second}
use Rattle.straight_acts.proofs.Filling.{filled, filled_counted, freed, settled, shows_vacant, vacant_at}
use Rattle.straight_acts.proofs.Pinning.{count_fits, counted_act_fits, loaded, pin_fits, won}
use Rattle.straight_acts.proofs.Pinning.{fills_bare, fills_counted, fills_due, removes_bare, removes_counted, removes_due}
use Rattle.straight_acts.proofs.Removing.{closed, drawn, held, quiesce_fits, quiesced, remove_under, unmap_under}
use Rattle.straight_acts.proofs.Removing.{closed_counted, drawn_counted, quiesce_counted_fits, quiesced_counted}
use Rattle.straight_looks.proofs.Fitting.{act_fits, ended_went, fits_as, look_fits}
use Rattle.straight_looks.proofs.Leaving.{answers}

pub ruleset copying = (copy_asked, copy_first, copy_second, copy_fills, ended_went)

pub ruleset copying_into = (freed, look_fits, fits_as)

pub ruleset vacancies = (vacant_at, shows_vacant)

pub ruleset acquiring = (loaded, won, pin_fits, fits_as)

pub ruleset fillings = (fills_bare, fills_due, fills_counted, fits_as)

pub ruleset bare_fillings = (filled, act_fits, fits_as, answers)

pub ruleset counted_fillings = (filled_counted, settled, counted_act_fits, count_fits, fits_as, answers)

pub ruleset removings = (remove_under, ended_went)

pub ruleset unmappings = (unmap_under, ended_went)

pub ruleset removals_under = (ended_went)

pub ruleset removals_at = (held, look_fits, fits_as)

pub ruleset removals_held = (removes_bare, removes_due, removes_counted, fits_as)

pub ruleset bare_removals = (closed, drawn, quiesced, act_fits, quiesce_fits, fits_as, answers)

pub ruleset counted_fits = (counted_act_fits, quiesce_counted_fits, count_fits)

pub ruleset counted_removals = (closed_counted, drawn_counted, quiesced_counted, settled, counted_fits, fits_as, answers)
