-- Worked traces and states that the laws of translations, components, gates and threads refuse.
use Rattle.kernel_history.proofs.{◌≡◌, ◌<◌, ◌++◌, List, [], ◌∷◌, refl, arith, drop, false≢true, true≢false, cap_of, Nothing, Translation}
use Rattle.kernel_history.proofs.{start, Untyped, User, word_of_entry, entry_of_word, word_of_live, live_of_word, word_of_thread}
use Rattle.kernel_history.proofs.{thread_of_word, Idle, KeepsDiscipline, IsLegal, two_cores, may_follow, carried_out, Kind, Call}
use Rattle.history_laws.specs.{AtEachMoment, AtEachStep, OfEachStretch, TouchesCache, DeadForGood, KilledStop, EntersTheLiving}
use Rattle.history_laws.specs.{EntersNoneKilled, ThreadWordsSay}
use Rattle.history_laws.specs.{Pages.AllStand, Pages.IsKept, Threads.RunApart, Scenes.no_flags, Scenes.to_eight, Scenes.cached_eight}
use Rattle.history_laws.specs.{Scenes.touches_nine, Scenes.killed, Scenes.gate_killed, Scenes.goes_through, Scenes.looks_dead}
use Rattle.history_laws.specs.{Scenes.both_run, Scenes.runs_idle, Refusals.ObjectsRefuse}
use Rattle.history_laws.proofs.Traces.{whole, newest, since, breaks}
use Rattle.history_laws.proofs.Disciplined.{disciplined_by, go_disciplined}
use Rattle.{state_laws.specs.spk_nums.specs.declared.replies.Value.TheVariants.Cap, state_laws.specs.Cached.Stands}

-- translations

cached_refused : AllStand cached_eight 0 → ⊥
unfolding two_cores cached_eight
cached_refused all =
    let stands : Stands cached_eight 0 to_eight = all.0 in
    let user : Untyped ≡ User = stands.user in
    cc

kept_refused : IsKept cached_eight (start two_cores) 0 → ⊥
unfolding two_cores cached_eight
kept_refused kept = unlike kept.begins.more kept.begins.is
  where
    unlike : (more : List Translation) → [] ≡ to_eight ∷ ([] ++ more) → ⊥
    unlike more h = cc

touch_refused : AtEachStep (TouchesCache two_cores) touches_nine → ⊥
unfolding two_cores touches_nine
touch_refused law =
    let user : Untyped ≡ User = (newest (TouchesCache two_cores) touches_nine law 0 9 no_flags refl refl).user in
    cc

-- components and gates

killed_legal : IsLegal two_cores killed
unfolding two_cores killed word_of_entry
killed_legal = (
  ((tt, may_follow refl refl (refl, tt) tt tt), may_follow refl refl tt tt tt),
  may_follow refl refl tt (carried_out {k = Call.Kill 3} refl (refl, (refl, refl)) refl) tt,
)

killed_disciplined : KeepsDiscipline two_cores killed
unfolding two_cores killed word_of_entry entry_of_word
killed_disciplined = (go_disciplined two_cores 2 (drop 1 killed) tt refl, disciplined_by [] refl refl tt)

dead_refused : OfEachStretch (DeadForGood two_cores) killed → ⊥
unfolding two_cores killed word_of_live live_of_word
dead_refused law = let higher : 1 < 1 = since (DeadForGood two_cores) 0 killed law 0 1 1 3 refl refl in omega (arith, higher)

living_refused : AtEachStep (EntersTheLiving two_cores) goes_through → ⊥
unfolding two_cores gate_killed goes_through
living_refused law = false≢true (newest (EntersTheLiving two_cores) goes_through law (cap_of Kind.Gate 3 1)
    (record { name = 20; value = Nothing; call = refl; decides = refl; leads = refl }))

entered_refused : OfEachStretch (EntersNoneKilled two_cores) goes_through → ⊥
unfolding two_cores gate_killed goes_through
entered_refused law =
    let higher : 1 < 1 = since (EntersNoneKilled two_cores) 2 goes_through law (cap_of Kind.Gate 3 1)
    (record { name = 20; value = Nothing; call = refl; decides = refl; leads = refl }) 1 refl in
    omega (arith, higher)

stop_refused : OfEachStretch (KilledStop two_cores) looks_dead → ⊥
unfolding two_cores gate_killed looks_dead
stop_refused law = true≢false (since (KilledStop two_cores) 2 looks_dead law (Call.Look 0)
    (record { value = Cap (cap_of Kind.Range 8 24); is_open = refl; decides = refl }) (record { out = refl; dead = refl }))

-- threads

apart_refused : RunApart 2 both_run → ⊥
unfolding two_cores both_run
apart_refused apart =
    let first : 0 < 2 = omega arith in
    let second : 1 < 2 = omega arith in
    let same : 0 ≡ 1 = apart 0 1 first second refl in
    omega (arith, same)

idle_legal : IsLegal two_cores runs_idle
unfolding two_cores runs_idle word_of_thread
idle_legal = ((tt, may_follow refl refl (refl, tt) tt tt), may_follow refl refl tt tt tt)

idle_disciplined : KeepsDiscipline two_cores runs_idle
unfolding two_cores runs_idle word_of_thread thread_of_word
idle_disciplined = go_disciplined two_cores 2 runs_idle tt refl

idle_refused : AtEachMoment (ThreadWordsSay two_cores) runs_idle → ⊥
unfolding two_cores runs_idle word_of_thread thread_of_word
idle_refused law =
    let first : 0 < 2 = omega arith in
    whole (ThreadWordsSay two_cores) runs_idle law 4 refl (Idle 1) refl 0 first refl

pub objects_refuse : ObjectsRefuse
unfolding two_cores killed runs_idle word_of_entry word_of_thread
objects_refuse = record {
  cached_frames_stay = cached_refused;
  cached_till_flush = kept_refused;
  touches_cache = touch_refused;
  dead_for_good = breaks (OfEachStretch (DeadForGood two_cores)) killed killed_legal refl refl killed_disciplined dead_refused;
  enters_the_living = living_refused;
  enters_none_killed = entered_refused;
  killed_stop = stop_refused;
  threads_run_apart = apart_refused;
  thread_words_say = breaks (AtEachMoment (ThreadWordsSay two_cores)) runs_idle idle_legal refl refl idle_disciplined idle_refused;
}
