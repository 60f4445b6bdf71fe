-- Where the steps of a killing lead to fits its machine, and leaves fewer steps.
use Rattle.act_fits.proofs.Common.{◌≡◌, ℕ, ◌+◌, ◌==◌, ◌<◌, ◌≤◌, Bool, true, false, length, Option, Some, None, refl, sym, subst, arith}
use Rattle.act_fits.proofs.Common.{slice_get, comp_of_word, live_of_word, CompWord, LiveWord, drawn_stamp, Refusal, KillingAt, LoadComp}
use Rattle.act_fits.proofs.Common.{LoadLive, kill_close as Close, kill_draw as Draw, refuse, dues, killing_dues, next_work, Own, ActType}
use Rattle.act_fits.proofs.Common.{kill_act, Act, Goes, ActiveCall, landed, steps_later, work_left}
use Rattle.call_stages.specs.act_states.specs.{meets_comp, meets_live, meets_number, meets_life, closes_if, took_killing_at}
use Rattle.call_stages.specs.act_states.specs.{declared.kills.Killing.Killing, Kills.KillingFits, Kills.killing_left, Kills.KillingAtFits}
use Rattle.call_stages.specs.act_states.specs.{Taking.drawn_dead}
use Rattle.act_fits.proofs.{DuesFit.work_next, DuesFit.counts_next, LandsFit.TookFits, LandsFit.Facts, LandsFit.landed_fits}
use Rattle.call_stages.specs.frame_words.proofs.CompLemmas as comps

-- a killing that stands elsewhere fits where that does
stands_at : (own : Own) (m : Killing) (at next : KillingAt) → KillingFits own.layout (record m { at = at })
    → KillingAtFits next → KillingFits own.layout (record m { at = next })
stands_at own m at next fits there = record { comp = fits.comp; core = fits.core; at = there }

module _ (own : Own) (a : ActiveCall) (facts : Facts own a) (room : own.made < own.limit) where
  refused : (left : ℕ) (r : Refusal) → 2 + length a.counts < left → TookFits own left a (landed a (refuse r))
  refused left r some =
      landed_fits own a a refl refl facts.found facts.acquired room 0 left (refuse r) (omega arith, tt) (omega arith)

  pub kill_fits : (m : Killing) (at : KillingAt) (found : ℕ) → KillingFits own.layout (record m { at = at })
      → length a.counts ≡ length (killing_dues m.comp at)
      → TookFits own (2 + length a.counts + killing_left at) a (landed a (took_killing_at m at found))
  kill_fits m LoadComp found fits waits = by (comp_of_word found) refl
    where
      by : (o : Option CompWord) → comp_of_word found ≡ o → TookFits own (2 + length a.counts + 8) a (landed a (meets_comp m o))
      by None is = refused _ Refusal.Raced (omega arith)
      by (Some life) is = landed_fits own a a refl refl facts.found facts.acquired room 7 _
          (Goes (Act (kill_act (record m { at = LoadLive life }))))
          (stands_at own m LoadComp (LoadLive life) fits (comps.spelling.spells found life is).0, omega arith, waits) (omega arith)
  kill_fits m (LoadLive life) found fits waits = by (live_of_word found)
    where
      lives : (same : Bool) → TookFits own (2 + length a.counts + 7) a (landed a (meets_life m life found same))
      lives true =
          let act : ActType = kill_act (record m { at = Close life found }) in
          let next = work_next own.layout (steps_later own.layout.cores a) m.core 0 act (slice_get (dues act) 0) refl fits.core
          (stands_at own m (LoadLive life) (Close life found) fits fits.at) in
          landed_fits own a a refl refl facts.found facts.acquired room 6 _ (Goes (next_work m.core 0 act)) (
            next.0,
            subst (λ (n : ℕ). work_left own.layout.cores (steps_later own.layout.cores a) n (next_work m.core 0 act) ≤ 6) (sym waits)
                (let fewer = next.1 in omega arith),
            counts_next m.core 0 a.counts act (slice_get (dues act) 0) refl (sym waits) (omega arith),
          ) (omega arith)
      lives false = refused _ Refusal.Dead (omega arith)

      number : (v : LiveWord) → TookFits own (2 + length a.counts + 7) a (landed a (meets_number m life found v))
      number LiveWord.Free = refused _ Refusal.Dead (omega arith)
      number (LiveWord.Live epoch f) = lives (epoch == life.epoch)
      number (LiveWord.Closing epoch by) = refused _ (Refusal.Busy by) (omega arith)
      number (LiveWord.Dead epoch stamp) = refused _ Refusal.Dead (omega arith)

      by : (o : Option LiveWord) → TookFits own (2 + length a.counts + 7) a (landed a (meets_live m life found o))
      by None = refused _ Refusal.Raced (omega arith)
      by (Some v) = number v
  kill_fits m (Close life word) found fits waits = by (found == word)
    where
      by : (equal : Bool) → TookFits own (2 + length a.counts + 3) a (landed a (closes_if m life word equal))
      by true = landed_fits own a a refl refl facts.found facts.acquired room 2 _
          (Goes (Act (kill_act (record m { at = Draw life word }))))
          (stands_at own m (Close life word) (Draw life word) fits fits.at, omega arith, waits) (omega arith)
      by false = refused _ Refusal.Raced (omega arith)
  kill_fits m (Draw life word) found fits waits =
      landed_fits own a a refl refl facts.found facts.acquired room 1 _ (drawn_dead life (drawn_stamp found))
      (omega arith, (fits.at, some_stamp)) (omega arith)
    where
      some_stamp : 1 ≤ drawn_stamp found
      some_stamp = omega arith
