-- How orders extend each trace for which a machine stood.
use Rattle.trace_run.specs.lone_kernel.specs as low
use Rattle.std.specs.Prelude.{◌++◌}
use low.kernel_history.specs.{ℕ, List, Item, AreOf, FollowsItem, FollowsItems, RunsOut, FollowsCores}
use low.{kernel_history.specs.Trace.Trace, Machine.Machine, Stands.StandsFor, flight.specs.Made.ready_after}

-- Each trace goes on by an item of the order.
pub record TakesItem (m m' : Machine) (item : Item) (t : Trace) : Type 0 where
  pub after : Trace
  pub stands : StandsFor m' after
  pub follows : FollowsItem (ready_after m.setup) m.lists item t after

abbrev pub GoesByItem : Machine → Machine → Item → Type 0
GoesByItem m m' item = (t : Trace) → StandsFor m t → TakesItem m m' item t

-- The same by items, one after another.
pub record TakesItems (m m' : Machine) (items : List Item) (t : Trace) : Type 0 where
  pub after : Trace
  pub stands : StandsFor m' after
  pub follows : FollowsItems (ready_after m.setup) m.lists items t after

abbrev pub GoesByItems : Machine → Machine → List Item → Type 0
GoesByItems m m' items = (t : Trace) → StandsFor m t → TakesItems m m' items t

-- Each trace goes on by steps of core c.
pub record GoesAlone (m m' : Machine) (c : ℕ) (t : Trace) : Type 0 where
  pub steps : Trace
  pub own : AreOf c steps
  pub stands : StandsFor m' (steps ++ t)

abbrev pub GoesByCore : Machine → Machine → ℕ → Type 0
GoesByCore m m' c = (t : Trace) → StandsFor m t → GoesAlone m m' c t

-- Each trace goes on to the end of core c's list.
pub record GoesToEnd (m m' : Machine) (c : ℕ) (t : Trace) : Type 0 where
  pub after : Trace
  pub stands : StandsFor m' after
  pub out : RunsOut m.lists c t after

abbrev pub RunsCoreOut : Machine → Machine → ℕ → Type 0
RunsCoreOut m m' c = (t : Trace) → StandsFor m t → GoesToEnd m m' c t

-- Each trace goes on to the ends of the lists of core 0, then core 1 and so on, n in all.
pub record GoesToEnds (m m' : Machine) (n : ℕ) (t : Trace) : Type 0 where
  pub after : Trace
  pub stands : StandsFor m' after
  pub out : FollowsCores m.lists n t after

abbrev pub RunsCoresOut : Machine → Machine → ℕ → Type 0
RunsCoresOut m m' n = (t : Trace) → StandsFor m t → GoesToEnds m m' n t
