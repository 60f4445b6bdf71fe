-- The lemmas that each function of this crate uses.
use Rattle.straight_entries.proofs.Entries.{entered_few, gate_asked, gate_entered, life_loaded, live_entered, pages_loaded, table_loaded}
use Rattle.straight_entries.proofs.Entries.{acting, below_loaded, below_pages_loaded, below_table_loaded, draw_due}
use Rattle.straight_entries.proofs.Entries.{draw_fits, left_few, ret_entered, stamp_drawn}
use Rattle.straight_entries.proofs.Storing.{own_before, pop_due, pop_fits, popped, popped_off, push_due, push_fits, pushed_on, risen}
use Rattle.straight_entries.proofs.Storing.{settle_due, settle_fits, settled}
use Rattle.straight_acts.proofs.Pinning.{counted_act_fits}
use Rattle.straight_looks.proofs.Fitting.{act_fits, ended_went, fits_as}

pub ruleset entering = (gate_asked, gate_entered, ended_went)

pub ruleset loading_table = (table_loaded, entered_few, act_fits, fits_as)

pub ruleset loading_pages = (pages_loaded, entered_few, act_fits, fits_as)

pub ruleset loading_life = (life_loaded, act_fits, fits_as)

pub ruleset loading_live = (live_entered, counted_act_fits, fits_as)

pub ruleset leaving = (ret_entered, act_fits, fits_as, ended_went)

pub ruleset loading_below = (below_loaded, act_fits, fits_as)

pub ruleset loading_below_table = (below_table_loaded, left_few, act_fits, fits_as)

pub ruleset loading_below_pages = (below_pages_loaded, acting, left_few, act_fits, fits_as)

pub ruleset drawing = (draw_due, draw_fits, stamp_drawn)

pub ruleset settling = (settle_due, settle_fits, settled, own_before)

pub ruleset pushing = (push_due, push_fits, pushed_on, risen, settling)

pub ruleset popping = (pop_due, pop_fits, popped, popped_off, settling)
