-- What each command that makes atomic steps, and each seat of a kernel, has of its trace: all that holds of a machine's history.
use Rattle.time_laws.specs.history_laws.specs as low
use low.{AtEachMoment, AtEachStep, OfEachStretch, PlacesFound, ScannedCores, LookedNodesStay, ReadNodesStay, CountedFramesStay}
use low.{UntypedFramesAreUnused, CountsTell, FrozenSay, FrozenSums, TimeSums, StampsTell, ReadyDecides, UnreadyRefuses, TouchesCache}
use low.{DeadForGood, KilledStop, EntersTheLiving, EntersNoneKilled, ThreadWordsSay, TicksAreCounted, BackIsCounted, HeadsSay, OpenHeadsSay}
use Rattle.time_laws.specs.kernel_history.specs.{Setting, IsSetting, IsLegal, KeepsBounds, KeepsDiscipline, KeepsFootprints, KeepsFirst}
use low.{MarkedHeadsSay, ListsSay, TestsTell, Pages.CachedFramesStay, Pages.CachedTillFlush, Threads.ThreadsRunApart, Time.TimeIsKept}
use Rattle.{time_laws.specs.flight.specs.IsMade, time_laws.specs.flight.specs.ready_after, time_laws.specs.kernel_history.specs.Trace.Trace}
use Rattle.{time_laws.specs.kernel_history.specs.Moments.WordsSayAlong, isolation_laws.specs.Authority.HasAuthority}
use Rattle.{isolation_laws.specs.Worlds.SparesWorlds, isolation_laws.specs.Worlds.EntersWorlds, isolation_laws.specs.Worlds.WorldsStay}

-- The trace is the machine's, and is a legal history: its replies are those of the sequential kernel, each at a step of its call,
-- and justified. Its calls keep within their bounds of steps, each step keeps the discipline of words and is in the footprint of its
-- call, at each moment the words say what the state is, and a call made alone answers as in the sequential kernel. Then come the
-- laws of when calls are decided, places, frames, counts, translations, components, threads, time, authority and worlds; what each says
-- stands with its definition.
pub record IsHistory (setup : Setting) (t : Trace) : Type 0 where
  pub made : IsMade setup t
  pub legal : IsLegal setup t
  pub bounds : KeepsBounds setup.cores t
  pub discipline : KeepsDiscipline setup t
  pub footprints : KeepsFootprints setup t
  pub words : WordsSayAlong setup t
  pub alone : KeepsFirst setup t
  -- when calls are decided: at the next step of a core that is ready, and with a refusal at one of a core that is not
  pub ready_decides : AtEachStep (ReadyDecides (ready_after setup)) t
  pub unready_refuses : AtEachStep (UnreadyRefuses (ready_after setup)) t
  -- what calls have found, and what scans have shown
  pub places_found : AtEachMoment (PlacesFound setup) t
  pub looked_nodes_stay : OfEachStretch (LookedNodesStay setup) t
  pub read_nodes_stay : OfEachStretch (ReadNodesStay setup) t
  pub scanned_cores : OfEachStretch (ScannedCores setup) t
  -- frames and the references to them
  pub counted_frames_stay : AtEachStep (CountedFramesStay setup) t
  pub untyped_frames_are_unused : AtEachStep (UntypedFramesAreUnused setup) t
  pub counts_tell : AtEachMoment (CountsTell setup) t
  pub stamps_tell : AtEachMoment (StampsTell setup) t
  pub frozen_say : AtEachMoment (FrozenSay setup) t
  pub frozen_sums : AtEachMoment (FrozenSums setup) t
  -- translations
  pub cached_frames_stay : AtEachMoment (CachedFramesStay setup) t
  pub cached_till_flush : OfEachStretch (CachedTillFlush setup) t
  pub touches_cache : AtEachStep (TouchesCache setup) t
  -- components and gates
  pub dead_for_good : OfEachStretch (DeadForGood setup) t
  pub enters_the_living : AtEachStep (EntersTheLiving setup) t
  pub enters_none_killed : OfEachStretch (EntersNoneKilled setup) t
  pub killed_stop : OfEachStretch (KilledStop setup) t
  -- threads
  pub threads_run_apart : AtEachMoment (ThreadsRunApart setup) t
  pub thread_words_say : AtEachMoment (ThreadWordsSay setup) t
  -- time
  pub time_sums : AtEachMoment (TimeSums setup) t
  pub time_is_kept : AtEachMoment (TimeIsKept setup) t
  pub ticks_are_counted : AtEachMoment (TicksAreCounted setup) t
  pub back_is_counted : AtEachMoment (BackIsCounted setup) t
  pub heads_say : AtEachMoment (HeadsSay setup) t
  pub open_heads_say : AtEachMoment (OpenHeadsSay setup) t
  pub marked_heads_say : AtEachMoment (MarkedHeadsSay setup) t
  pub lists_say : AtEachMoment (ListsSay setup) t
  pub tests_tell : AtEachStep (TestsTell setup) t
  -- what a step may change, and worlds that nothing outside holds
  pub have_authority : AtEachStep (HasAuthority setup) t
  pub worlds_spared : AtEachStep (SparesWorlds setup) t
  pub worlds_entered : AtEachStep (EntersWorlds setup) t
  pub worlds_stay : OfEachStretch (WorldsStay setup) t

-- Each trace that is the machine's is such a history.
abbrev pub MadeHistories : Type 0
MadeHistories = (setup : Setting) → IsSetting setup → (t : Trace) → IsMade setup t → IsHistory setup t
