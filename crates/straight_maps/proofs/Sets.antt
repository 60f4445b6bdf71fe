-- The lemmas that each function of this crate uses.
use Rattle.straight_maps.proofs.Growing.{holds}
use Rattle.straight_maps.proofs.Mapping.{frame_fits, map_due, map_held, user_loaded, user_shown}
use Rattle.straight_maps.proofs.Placing.{free_in, shows_free, stood}
use Rattle.straight_maps.proofs.Scanning.{quiet_fits, scan_ends, scan_goes}
use Rattle.straight_acts.proofs.Removing.{held}
use Rattle.straight_looks.proofs.Fitting.{ended_went, fits_as, look_fits}

pub ruleset showing = (shows_free, free_in)

pub ruleset placing = (look_fits, fits_as)

pub ruleset scanning_next = (scan_goes, scan_ends, quiet_fits, fits_as)

pub ruleset scanning_all = (stood, fits_as)

pub ruleset scanning = (fits_as)

pub ruleset mapping = (ended_went)

pub ruleset mapping_at = (fits_as)

pub ruleset mapping_place = (fits_as)

pub ruleset mapping_counted = (map_due, map_held, fits_as)

pub ruleset mapping_user = (user_loaded, frame_fits, fits_as)

pub ruleset reading = (user_shown)

pub ruleset filling = (fits_as)

pub ruleset growing = (ended_went)

pub ruleset removing = (held, look_fits, fits_as)

pub ruleset holding = (holds)
