-- The lemmas that each function of this crate uses.
use Rattle.straight_looks.proofs.Fitting.{fits_as, look_fits}
use Rattle.straight_looks.proofs.Leaving.{answers, clocked, decided_due, left, stamped_due, told}
use Rattle.straight_looks.proofs.Looking.{look_asked, look_named}
use Rattle.straight_looks.proofs.Steps.{cap_within, compared, entered, followed, held_shown, leads, lived, named, wanted}

pub ruleset asking = (entered, compared, lived, fits_as)

pub ruleset following = (followed, look_fits, fits_as)

pub ruleset showing = (cap_within, held_shown, wanted, leads)

pub ruleset naming = (named, look_fits, fits_as)

pub ruleset leaving = (decided_due, clocked, stamped_due, left, told)

pub ruleset looking = (look_asked, look_named, answers)
