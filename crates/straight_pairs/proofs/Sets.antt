-- The lemmas that each function of this crate uses.
use Rattle.straight_looks.proofs.Fitting.{ended_went}
use Rattle.straight_pairs.proofs.Naming.{begins_with, delegate_two, first_at, first_next, found_on, same_stands, second_at, second_next}
use Rattle.straight_pairs.proofs.Naming.{shares, test_two, transfer_two}
use Rattle.straight_pairs.proofs.Sharing.{shared_decides, shared_falls, shared_on, sharing_due, sharing_fell, sharing_fits, sharing_stands}
use Rattle.straight_pairs.proofs.Sharing.{stores_decided, stores_done, stores_head, stores_last, stores_list, stores_on, stores_refused}
use Rattle.straight_pairs.proofs.Sharing.{storing_due, storing_fits, storing_stands}
use Rattle.straight_pairs.proofs.Taking.{again_b, compares_b, is_unmarked, list_a, list_b, loads_a, loads_b, marks_a, passes_on, reads_on}

pub ruleset sharing = (ended_went)

pub ruleset naming_two = (transfer_two, delegate_two, test_two)

pub ruleset naming = (first_next, first_at, second_next, second_at, begins_with, found_on)

pub ruleset beginning = (same_stands, shares)

pub ruleset sharing_pair = (sharing_stands, sharing_fell)

pub ruleset heads = (is_unmarked)

pub ruleset going_on = (list_a, list_b, loads_a, loads_b, marks_a)

pub ruleset reading = (passes_on, reads_on)

pub ruleset deciding = (compares_b, again_b)

pub ruleset next = (sharing_due, sharing_fits, shared_on, shared_decides, shared_falls)

pub ruleset storing_pair = (storing_stands)

pub ruleset storing_last = (stores_last, stores_done, stores_decided, stores_refused)

pub ruleset store = (storing_due, storing_fits, stores_list, stores_head, stores_on, storing_last)
