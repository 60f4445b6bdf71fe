-- All that holds of a machine's history, from the invariant at each of its moments.
use Rattle.time_laws.specs.flight.proofs.{◌≡◌, [], ◌∷◌, ◌++◌, subst, Setting, IsSetting, Step, Trace, cores_after, IsMade}
use Rattle.time_laws.specs.history_laws.specs.{AtEachMoment, AtEachStep, OfEachStretch, ScannedCores, KilledStop, EntersNoneKilled}
use Rattle.time_laws.specs.flight.proofs.{Final.says_words, Made.made_stands}
use Rattle.isolation_laws.proofs.{StepAuthority.steps_have_authority, StepWorlds.steps_enter_worlds, StepWorlds.steps_spare_worlds}
use Rattle.time_laws.proofs.{Time.time_kept, Time.ticks_counted, Time.back_counted, Time.heads_say, Time.lists_say, Time.tests_tell}
use Rattle.time_laws.proofs.{MarkedHeads.open_heads_say, OwedHeads.marked_heads_say}
use Rattle.flight_laws.proofs.{Places.places_found, Places.scanned_cores, Frames.counted_frames_stay, Frames.looked_nodes_stay}
use Rattle.flight_laws.proofs.{Frames.read_nodes_stay, Frames.untyped_unused, CountHolds.frozen_say, Sums.frozen_sums, Sums.time_sums}
use Rattle.flight_laws.proofs.{CountsTold.counts_tell, StampsTold.stamps_tell, Ready.ready_decides, Ready.unready_refuses}
use Rattle.flight_laws.proofs.{Pages.cached_frames_stay, Pages.cached_till_flush, Pages.touches_cache, Lives.dead_for_good}
use Rattle.flight_laws.proofs.{Lives.killed_stop, Invocations.enters_none_killed, Invocations.enters_the_living, Threads.threads_apart}
use Rattle.{time_laws.specs.kernel_history.specs.Moments.WordsSayAlong, isolation_laws.proofs.StretchWorlds.stretches_keep_worlds}
use Rattle.{flight_laws.specs.Histories.MadeHistories, flight_laws.proofs.Threads.words_say}

says_along : (setup : Setting) → IsSetting setup → (t : Trace) → IsMade setup t → WordsSayAlong setup t
says_along setup lim [] made = says_words setup lim (cores_after setup []) [] (made_stands setup lim [] made)
says_along setup lim (e ∷ t) made =
    (says_along setup lim t made.0, says_words setup lim (cores_after setup (e ∷ t)) (e ∷ t) (made_stands setup lim (e ∷ t) made))

-- Each beginning of a trace that is the machine's is the machine's.
begins_made : (setup : Setting) (u v : Trace) → IsMade setup (u ++ v) → IsMade setup v
begins_made setup [] v made = made
begins_made setup (e ∷ u) v made = begins_made setup u v made.0

module _ (setup : Setting) (t : Trace) (made : IsMade setup t) where
  made_at : (u v : Trace) → t ≡ u ++ v → IsMade setup v
  made_at u v is = begins_made setup u v (subst (IsMade setup) is made)

  -- What holds of each trace of the machine holds at each moment, at each step and of each stretch of this one.
  moments : {Holds : Trace → Type 0} → ((v : Trace) → IsMade setup v → Holds v) → AtEachMoment Holds t
  moments law u v is = law v (made_at u v is)

  steps : {Holds : Trace → Step → Type 0} → ((v : Trace) (e : Step) → IsMade setup (e ∷ v) → Holds v e) → AtEachStep Holds t
  steps law u e v is = law v e (made_at u (e ∷ v) is)

  stretches : {Holds : Trace → Trace → Type 0} → ((u v : Trace) → IsMade setup (u ++ v) → Holds u v) → OfEachStretch Holds t
  stretches law w u v is = law u v (made_at w (u ++ v) is)

scans : (setup : Setting) → IsSetting setup → (u v : Trace) → IsMade setup (u ++ v) → ScannedCores setup u v
scans setup lim u [] made = tt
scans setup lim u (e ∷ v) made = scanned_cores setup lim u v e made

enters : (setup : Setting) → IsSetting setup → (u v : Trace) → IsMade setup (u ++ v) → EntersNoneKilled setup u v
enters setup lim [] v made = tt
enters setup lim (e ∷ u) v made = enters_none_killed setup lim u v e made

stops : (setup : Setting) → IsSetting setup → (u v : Trace) → IsMade setup (u ++ v) → KilledStop setup u v
stops setup lim [] v made = tt
stops setup lim (e ∷ u) v made = killed_stop setup lim u v e made

pub made_histories : MadeHistories
made_histories setup lim t made =
    let stands = made_stands setup lim t made in
    record {
      made = made;
      legal = stands.legal;
      bounds = stands.bounds;
      discipline = stands.discipline;
      footprints = stands.footprints;
      words = says_along setup lim t made;
      alone = stands.alone;
      ready_decides = steps setup t made (λ v e is. ready_decides setup lim v e is);
      unready_refuses = steps setup t made (λ v e is. unready_refuses setup lim v e is);
      places_found = moments setup t made (places_found setup lim);
      looked_nodes_stay = stretches setup t made (looked_nodes_stay setup lim);
      read_nodes_stay = stretches setup t made (read_nodes_stay setup lim);
      scanned_cores = stretches setup t made (scans setup lim);
      counted_frames_stay = steps setup t made (counted_frames_stay setup lim);
      untyped_frames_are_unused = steps setup t made (untyped_unused setup lim);
      counts_tell = moments setup t made (counts_tell setup lim);
      stamps_tell = moments setup t made (stamps_tell setup lim);
      frozen_say = moments setup t made (frozen_say setup lim);
      frozen_sums = moments setup t made (frozen_sums setup lim);
      cached_frames_stay = moments setup t made (cached_frames_stay setup lim);
      cached_till_flush = stretches setup t made (cached_till_flush setup lim);
      touches_cache = steps setup t made (λ v e is. touches_cache setup lim e v is);
      dead_for_good = stretches setup t made (dead_for_good setup lim);
      enters_the_living = steps setup t made (enters_the_living setup lim);
      enters_none_killed = stretches setup t made (enters setup lim);
      killed_stop = stretches setup t made (stops setup lim);
      threads_run_apart = moments setup t made (threads_apart setup lim);
      thread_words_say = moments setup t made (words_say setup lim);
      time_sums = moments setup t made (time_sums setup lim);
      time_is_kept = moments setup t made (time_kept setup lim);
      ticks_are_counted = moments setup t made (ticks_counted setup lim);
      back_is_counted = moments setup t made (back_counted setup lim);
      heads_say = moments setup t made (heads_say setup lim);
      open_heads_say = moments setup t made (open_heads_say setup lim);
      marked_heads_say = moments setup t made (marked_heads_say setup lim);
      lists_say = moments setup t made (lists_say setup lim);
      tests_tell = steps setup t made (λ v e is. tests_tell setup lim e v is);
      have_authority = steps setup t made (λ v e is. steps_have_authority setup lim v e (made_stands setup lim (e ∷ v) is).legal);
      worlds_spared = steps setup t made (λ v e is. steps_spare_worlds setup lim v e (made_stands setup lim (e ∷ v) is).legal);
      worlds_entered = steps setup t made (λ v e is. steps_enter_worlds setup lim v e (made_stands setup lim (e ∷ v) is).legal);
      worlds_stay = stretches setup t made (λ u v is. stretches_keep_worlds setup lim u v (made_stands setup lim (u ++ v) is).legal);
    }
