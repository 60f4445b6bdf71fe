-- Where the steps of a switch lead to fits their machine, and leaves fewer steps.
use Rattle.act_fits.proofs.Common.{◌≡◌, ℕ, ◌+◌, ◌==◌, ◌<◌, ◌≤◌, nat_lt, Bool, true, false, length, Option, Some, None, refl, sym, subst}
use Rattle.act_fits.proofs.Common.{arith, slice_get, ltb-true, stack_of_word, StackWord, Claimed, drawn_stamp, frame_in, SwitchAtFits}
use Rattle.act_fits.proofs.Common.{SwitchingFits, switching_dues, dues, next_work, Own, Refusal, Switching, SwitchAt, ActType}
use Rattle.act_fits.proofs.Common.{switch_act as Switch, Tail, Nothing, Act, Goes, Refuses, ActiveCall, landed, tail_left, TailFits}
use Rattle.act_fits.proofs.Common.{steps_later, work_left}
use Rattle.call_stages.specs.act_states.specs.{word_of_thread, thread_of_word, ThreadWord, AtStack, switching_undo, took_claim}
use Rattle.call_stages.specs.act_states.specs.{switch_table, switch_pages, took_switching_at}
use Rattle.call_stages.specs.stage_thread.specs.{claimed_within, stack_end, thread_end, thread_after, claim_compared, compared_after}
use Rattle.call_stages.specs.stage_thread.specs.Claiming.{claimed_at, top_end}
use Rattle.call_stages.specs.stage_thread.specs.declared.claim.Claim.TheVariants.{AtLoad, AtCompare}
use Rattle.call_stages.specs.act_states.specs.Switches.{switching_left, switch_goes, switched}
use Rattle.call_stages.specs.act_states.specs.declared.switches.SwitchAt.TheVariants.{Claim, LoadTable, LoadPages, Leave, Draw}
use Rattle.act_fits.proofs.{DuesFit.work_next, DuesFit.counts_next, DuesFit.few_dues, LandsFit.TookFits, LandsFit.Facts}
use Rattle.act_fits.proofs.{LandsFit.landed_fits, InvocationsFit.frame_below}
use Rattle.call_stages.specs.tcap_words.proofs.ThreadLemmas as words

-- What a refused call has still to store fits, and is no more than was to come.
pub switching_undone : (own : Own) (m : Switching) (at : SwitchAt) → SwitchingFits own.layout (record m { at = at })
    → TailFits own.layout (switching_undo at) × (tail_left (switching_undo at) ≤ switching_left at)
switching_undone own m (Claim (AtLoad f core)) fits = (tt, omega arith)
switching_undone own m (Claim (AtCompare f core depth)) fits = (tt, omega arith)
switching_undone own m (Claim (AtStack f depth)) fits = (fits.at, omega arith)
switching_undone own m (LoadTable to) fits = ((fits.at.thread, fits.at.depth), omega arith)
switching_undone own m _ fits = ((fits.at.0.thread, fits.at.0.depth), omega arith)

-- A switch that stands elsewhere fits where that does.
stands_at : (own : Own) (m : Switching) (at next : SwitchAt) → SwitchingFits own.layout (record m { at = at })
    → SwitchAtFits own.layout next → SwitchingFits own.layout (record m { at = next })
stands_at own m at next fits there = record {
  core = fits.core;
  frames = fits.frames;
  few = fits.few;
  tcap = fits.tcap;
  old = fits.old;
  old_depth = fits.old_depth;
  old_tcap = fits.old_tcap;
  at = there;
}

module _ (own : Own) (a : ActiveCall) (facts : Facts own a) (room : own.made < own.limit) where
  gives_up : (left : ℕ) (r : Refusal) (tail : Tail) → TailFits own.layout tail → 2 + length a.counts + tail_left tail < left
      → TookFits own left a (landed a (Refuses r tail))
  gives_up left r tail fits some =
      landed_fits own a a refl refl facts.found facts.acquired room (tail_left tail) left (Refuses r tail) (omega arith, fits)
      (omega arith)

  goes : (m : Switching) (at next : SwitchAt) → SwitchingFits own.layout (record m { at = at }) → SwitchAtFits own.layout next
      → length a.counts ≡ length (switching_dues m next) → switching_left next < switching_left at
      → TookFits own (2 + length a.counts + switching_left at) a (landed a (switch_goes m next))
  goes m at next fits there waits fewer =
      landed_fits own a a refl refl facts.found facts.acquired room (switching_left next) _
      (Goes (Act (Switch (record m { at = next })))) (stands_at own m at next fits there, omega arith, waits) (omega (arith, fewer))

  -- its counts are due from here on
  counts_first : (m : Switching) (to : Claimed) (table pages : ℕ) → SwitchingFits own.layout (record m { at = Leave to table pages })
      → length a.counts ≡ 0
      → TookFits own (2 + length a.counts + 17) a (landed a (Goes (next_work m.core 0 (Switch (record m { at = Leave to table pages })))))
  counts_first m to table pages fits waits =
      let act : ActType = Switch (record m { at = Leave to table pages }) in
      let few : length (dues act) ≤ 4 = few_dues act in
      let next = work_next own.layout (steps_later own.layout.cores a) m.core 0 act (slice_get (dues act) 0) refl fits.core fits in
      landed_fits own a a refl refl facts.found facts.acquired room 16 _ (Goes (next_work m.core 0 act)) (
        next.0,
        subst (λ (n : ℕ). work_left own.layout.cores (steps_later own.layout.cores a) n (next_work m.core 0 act) ≤ 16) (sym waits)
            (let fewer = next.1 in omega (arith, few, fewer)),
        counts_next m.core 0 a.counts act (slice_get (dues act) 0) refl (sym waits) (omega arith),
      ) (omega arith)

  load_fits : (m : Switching) (f core found : ℕ) → SwitchingFits own.layout (record m { at = Claim (AtLoad f core) })
      → length a.counts ≡ 0
      → TookFits own (2 + length a.counts + 21) a
      (landed a (took_claim m (thread_after f core (thread_of_word found)) (thread_end (thread_of_word found))))
  load_fits m f core found fits waits = by (thread_of_word found) refl
    where
      by : (o : Option ThreadWord) → thread_of_word found ≡ o
          → TookFits own (2 + length a.counts + 21) a (landed a (took_claim m (thread_after f core o) (thread_end o)))
      by None is = gives_up _ Refusal.Raced Nothing tt (omega arith)
      by (Some (ThreadWord.Idle depth)) is =
          goes m (Claim (AtLoad f core)) (Claim (AtCompare f core depth)) fits
          (fits.at, (words.spelling.spells found (ThreadWord.Idle depth) is).0) waits (omega arith)
      by (Some (ThreadWord.Running d depth)) is = gives_up _ (Refusal.Running d) Nothing tt (omega arith)
      by (Some (ThreadWord.Claimed d depth)) is = gives_up _ (Refusal.Busy d) Nothing tt (omega arith)

  compare_fits : (m : Switching) (f core depth : ℕ) (same : Bool)
      → SwitchingFits own.layout (record m { at = Claim (AtCompare f core depth) }) → length a.counts ≡ 0
      → TookFits own (2 + length a.counts + 20) a (landed a (took_claim m (compared_after same f core depth) (claim_compared same)))
  compare_fits m f core depth true fits waits =
      goes m (Claim (AtCompare f core depth)) (Claim (AtStack f depth)) fits fits.at waits (omega arith)
  compare_fits m f core depth false fits waits = gives_up _ Refusal.Raced Nothing tt (omega arith)

  stack_fits : (m : Switching) (f depth : ℕ) (o : Option StackWord)
      → SwitchingFits own.layout (record m { at = Claim (AtStack f depth) }) → length a.counts ≡ 0
      → TookFits own (2 + length a.counts + 19) a (landed a (took_claim m (AtStack f depth) (stack_end m.frames f depth o)))
  stack_fits m f depth None fits waits = gives_up _ Refusal.Raced _ fits.at (omega arith)
  stack_fits m f depth (Some v) fits waits = top v.0
    where
      within : (comp : ℕ) (b : Bool) → nat_lt comp m.frames ≡ b
          → TookFits own (2 + length a.counts + 19) a
          (landed a (took_claim m (AtStack f depth) (claimed_within b (claimed_at f depth comp))))
      within comp true is =
          goes m (Claim (AtStack f depth)) (LoadTable (claimed_at f depth comp)) fits
          (record {
            thread = fits.at.0;
            depth = fits.at.1;
            comp = subst (λ (n : ℕ). comp < n) fits.frames (ltb-true comp m.frames is);
          }) waits (omega arith)
      within comp false is = gives_up _ Refusal.Raced _ fits.at (omega arith)

      top : (o : Option ℕ) → TookFits own (2 + length a.counts + 19) a
          (landed a (took_claim m (AtStack f depth) (top_end m.frames f depth o)))
      top None = gives_up _ Refusal.Raced _ fits.at (omega arith)
      top (Some comp) = within comp (nat_lt comp m.frames) refl

  pub switch_fits : (m : Switching) (at : SwitchAt) (found : ℕ) → SwitchingFits own.layout (record m { at = at })
      → length a.counts ≡ length (switching_dues m at)
      → TookFits own (2 + length a.counts + switching_left at) a (landed a (took_switching_at m at found))
  switch_fits m (Claim (AtLoad f core)) found fits waits = load_fits m f core found fits waits
  switch_fits m (Claim (AtCompare f core depth)) found fits waits =
      compare_fits m f core depth (found == word_of_thread (ThreadWord.Idle depth)) fits waits
  switch_fits m (Claim (AtStack f depth)) found fits waits = stack_fits m f depth (stack_of_word found) fits waits
  switch_fits m (LoadTable to) found fits waits = by (frame_in m.frames found) refl
    where
      by : (o : Option ℕ) → frame_in m.frames found ≡ o → TookFits own (2 + length a.counts + 18) a (landed a (switch_table m to o))
      by None is = gives_up _ Refusal.Raced _ (fits.at.thread, fits.at.depth) (omega arith)
      by (Some table) is =
          goes m (LoadTable to) (LoadPages to table) fits
          (fits.at, subst (λ (n : ℕ). table < n) fits.frames (frame_below m.frames found table is)) waits (omega arith)
  switch_fits m (LoadPages to table) found fits waits = by (frame_in m.frames found) refl
    where
      by : (o : Option ℕ) → frame_in m.frames found ≡ o
          → TookFits own (2 + length a.counts + 17) a (landed a (switch_pages m to table o))
      by None is = gives_up _ Refusal.Raced _ (fits.at.0.thread, fits.at.0.depth) (omega arith)
      by (Some pages) is =
          counts_first m to table pages (stands_at own m (LoadPages to table) (Leave to table pages) fits
          (fits.at.0, fits.at.1, subst (λ (n : ℕ). pages < n) fits.frames (frame_below m.frames found pages is))) waits
  switch_fits m (Leave to table pages) found fits waits =
      goes m (Leave to table pages) (Draw to table pages) fits fits.at waits (omega arith)
  switch_fits m (Draw to table pages) found fits waits =
      landed_fits own a a refl refl facts.found facts.acquired room 2 _ (switched m to table pages (drawn_stamp found)) (
        omega arith,
        (fits.at.0.thread, fits.at.0.depth, fits.old, fits.old_depth),
        (fits.at.0.thread, fits.at.0.depth.0, fits.at.0.depth.1, fits.at.0.comp, fits.at.1, fits.at.2, fits.tcap),
      ) (omega arith)
