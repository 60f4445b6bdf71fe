-- What each law of a history refuses. Of the laws that say more than that a trace is legal it is a trace that is legal, in the footprints
-- of its calls, within their bounds and disciplined. Of those that follow from a legal trace it is a trace, or a state, that is none.
use Rattle.history_laws.specs as low
use Rattle.std.specs.Prelude.{◌≡◌}
use Rattle.kernel_history.specs.{start, FrameOf, KeepsBounds, counters, KeepsDiscipline, KeepsFootprints, IsLegal, two_cores}
use low.{Moments.AtEachMoment, Moments.AtEachStep, Moments.OfEachStretch, Ready.ReadyDecides, Ready.UnreadyRefuses, Places.PlacesFound}
use low.{Places.ScannedCores, Frames.LookedNodesStay, Frames.ReadNodesStay, Frames.CountedFramesStay, Frames.UntypedFramesAreUnused}
use low.{Counts.CountsTell, Counts.FrozenSay, Stamps.newest_then, Stamps.StampsTell, Sums.FrozenSums, Sums.TimeSums, Pages.AllStand}
use low.{Pages.IsKept, Pages.TouchesCache, Lives.DeadForGood, Lives.KilledStop, Invocations.EntersTheLiving, Invocations.EntersNoneKilled}
use low.{Threads.RunApart, Threads.ThreadWordsSay, Time.KeepsTicks, Time.TicksAreCounted, Time.BackIsCounted, Time.HeadsSay}
use low.{Time.OpenHeadsSay, Time.MarkedHeadsSay, Time.ListsSay, Time.TestsTell, Scenes.looks_on, Scenes.looked, Scenes.none_ready}
use low.{Scenes.reads_stray, Scenes.scans_stray, Scenes.leaf_untyped, Scenes.counted_untyped, Scenes.leaf_one_untyped, Scenes.counts_five}
use low.{Scenes.dates_early, Scenes.counts_twice, Scenes.freezes_one, Scenes.freezes_both, Scenes.copy_freezes, Scenes.draws_held}
use low.{Scenes.cached_eight, Scenes.touches_nine, Scenes.killed, Scenes.goes_through, Scenes.looks_dead, Scenes.both_run, Scenes.runs_idle}
use low.{Scenes.ticks_lost, Scenes.tick_refused, Scenes.replenish_unspent, Scenes.budget_lost, Scenes.marked_lost, Scenes.list_changed}
use low.{Scenes.taken_early, Scenes.added_twice, Scenes.tests_nothing}
use Rattle.{kernel_history.specs.ready_to_look, kernel_history.specs.stamp, kernel_history.specs.Trace.Trace}

-- A law of traces refuses the trace, which is legal, in the footprints of its calls, within their bounds and disciplined.
pub record Breaks (Law : Trace → Type 0) (t : Trace) : Type 0 where
  pub legal : IsLegal two_cores t
  pub footprint : KeepsFootprints two_cores t
  pub within : KeepsBounds 2 t
  pub discipline : KeepsDiscipline two_cores t
  pub refused : Law t → ⊥

-- It refuses it.
abbrev pub Refuses : (Trace → Type 0) → Trace → Type 0
Refuses Law t = Law t → ⊥

-- When calls are decided, and what they have found.
pub record CallsRefuse : Type 0 where
  pub ready_decides : Breaks (AtEachStep (ReadyDecides ready_to_look)) looks_on
  pub unready_refuses : Breaks (AtEachStep (UnreadyRefuses none_ready)) looked
  pub places_found : Breaks (AtEachMoment (PlacesFound two_cores)) reads_stray
  pub scanned_cores : Breaks (OfEachStretch (ScannedCores two_cores)) scans_stray

-- Frames that are made untyped.
pub record FramesRefuse : Type 0 where
  pub looked_nodes_stay : Breaks (OfEachStretch (LookedNodesStay two_cores)) leaf_untyped
  pub read_nodes_stay : Breaks (OfEachStretch (ReadNodesStay two_cores)) leaf_untyped
  pub counted_frames_stay : Breaks (AtEachStep (CountedFramesStay two_cores)) counted_untyped
  pub untyped_frames_are_unused : Refuses (AtEachStep (UntypedFramesAreUnused two_cores)) leaf_one_untyped

-- The references to frames.
pub record CountsRefuse : Type 0 where
  pub counts_tell : Breaks (AtEachMoment (CountsTell two_cores)) counts_five
  -- what a call has still to store is counted, and what a word shows that is frozen
  pub to_be_added : Breaks (AtEachMoment (CountsTell two_cores)) counts_twice
  pub frozen_counts : Breaks (AtEachMoment (CountsTell two_cores)) freezes_one
  pub stamps_tell : Breaks (AtEachMoment (StampsTell two_cores)) dates_early
  -- a stamp is told that was drawn and has still to be stored
  pub drawn : newest_then two_cores draws_held 7 (counters 2) ≡ stamp two_cores draws_held (FrameOf 7)
  pub frozen_say : Breaks (AtEachMoment (FrozenSay two_cores)) copy_freezes
  pub frozen_sums : Breaks (AtEachMoment (FrozenSums two_cores)) freezes_both

-- Translations, components, gates and threads.
pub record ObjectsRefuse : Type 0 where
  pub cached_frames_stay : AllStand cached_eight 0 → ⊥
  pub cached_till_flush : IsKept cached_eight (start two_cores) 0 → ⊥
  pub touches_cache : Refuses (AtEachStep (TouchesCache two_cores)) touches_nine
  pub dead_for_good : Breaks (OfEachStretch (DeadForGood two_cores)) killed
  pub enters_the_living : Refuses (AtEachStep (EntersTheLiving two_cores)) goes_through
  pub enters_none_killed : Refuses (OfEachStretch (EntersNoneKilled two_cores)) goes_through
  pub killed_stop : Refuses (OfEachStretch (KilledStop two_cores)) looks_dead
  pub threads_run_apart : RunApart 2 both_run → ⊥
  pub thread_words_say : Breaks (AtEachMoment (ThreadWordsSay two_cores)) runs_idle

-- Time.
pub record TimeRefuses : Type 0 where
  pub time_is_kept : KeepsTicks two_cores ticks_lost → ⊥
  pub ticks_are_counted : Refuses (AtEachMoment (TicksAreCounted two_cores)) tick_refused
  pub back_is_counted : Refuses (AtEachMoment (BackIsCounted two_cores)) replenish_unspent
  pub time_sums : Breaks (AtEachMoment (TimeSums two_cores)) budget_lost
  pub heads_say : Breaks (AtEachMoment (HeadsSay two_cores)) budget_lost
  pub open_heads_say : Breaks (AtEachMoment (OpenHeadsSay two_cores)) marked_lost
  pub marked_heads_say : Breaks (AtEachMoment (MarkedHeadsSay two_cores)) taken_early
  -- also of the head to which a delegation adds
  pub delegated : Breaks (AtEachMoment (MarkedHeadsSay two_cores)) added_twice
  pub lists_say : Breaks (AtEachMoment (ListsSay two_cores)) list_changed
  pub tests_tell : Refuses (AtEachStep (TestsTell two_cores)) tests_nothing
