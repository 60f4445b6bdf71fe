-- Where the steps of an entering and of a leaving lead to fits their machine, and leaves fewer steps.
use Rattle.act_fits.proofs.Common.{◌≡◌, ℕ, ◌+◌, ◌==◌, ◌<◌, ◌≤◌, nat_lt, if◌then◌else◌, Bool, true, false, List, length, Option, Some, None}
use Rattle.act_fits.proofs.Common.{refl, sym, ap, subst, arith, slice_get, ltb-true, comp_of_word, live_of_word, CompWord, LiveWord}
use Rattle.act_fits.proofs.Common.{stack_of_word, StackWord, drawn_stamp, Acquired, AllFit, Reply, Refusal, InvokingAt, ReturningAt}
use Rattle.act_fits.proofs.Common.{frame_in, refuse, dues, invoking_dues, returning_dues, next_work, Own, ActType, invoke_act, return_act}
use Rattle.act_fits.proofs.Common.{Act, Goes, ActiveCall, Decided, GoesOn, went_with, landed, left_at, steps_later, work_left, ActFits}
use Rattle.call_stages.specs.act_states.specs.{Push as PushType, Pop as PopType, enters_if, enters_live, below_in, meets_table, meets_pages}
use Rattle.call_stages.specs.act_states.specs.{meets_gate, took_invoking_at, meets_below, meets_below_table, meets_below_pages}
use Rattle.call_stages.specs.stage_thread.specs.{PushFits, PopFits}
use Rattle.call_stages.specs.act_states.specs.Invocations.{InvokingAtFits, InvokingFits, invoking_left, enters_number, ReturningAtFits}
use Rattle.call_stages.specs.act_states.specs.Invocations.{ReturningFits, returning_left, frame_of_place, frame_of_stack, left_to}
use Rattle.call_stages.specs.act_states.specs.declared.work.Tail.TheVariants.{Push, Pop}
use Rattle.call_stages.specs.Tails.{pushed_on, popped_on}
use Rattle.act_fits.proofs.{DuesFit.work_next, DuesFit.counts_next, LandsFit.TookFits, LandsFit.Facts, LandsFit.landed_fits}
use Rattle.{act_fits.proofs.Common.act_left, call_stages.specs.act_states.specs.took_returning_at}
use Rattle.{call_stages.specs.act_states.specs.declared.invocations.Invoking.Invoking}
use Rattle.{call_stages.specs.act_states.specs.declared.invocations.Returning.Returning}
use Rattle.call_stages.specs.frame_words.proofs.CompLemmas as comps

-- a frame that a word names is one of the machine
pub frame_below : (frames found f : ℕ) → frame_in frames found ≡ Some f → f < frames
frame_below frames found f is = by (nat_lt found frames) refl is
  where
    same : (x y : ℕ) → Some x ≡ Some y → x ≡ y
    same x y h = cc

    by : (b : Bool) → nat_lt found frames ≡ b → (if b then Some found else None) ≡ Some f → f < frames
    by true low h = subst (λ (n : ℕ). n < frames) (same found f h) (ltb-true found frames low)
    by false low h = absurd (cc)

place_below : (frames f : ℕ) (o : Option ℕ) → frame_of_place frames o ≡ Some f → f < frames
place_below frames f None is = absurd (cc)
place_below frames f (Some g) is = frame_below frames g f is

stack_below : (frames f : ℕ) (o : Option StackWord) → frame_of_stack frames o ≡ Some f → f < frames
stack_below frames f None is = absurd (cc)
stack_below frames f (Some v) is = place_below frames f v.0 is

-- an entering and a leaving that stand elsewhere fit where that does
enters_at : (own : Own) (m : Invoking) (at next : InvokingAt) → InvokingFits own.layout (record m { at = at })
    → InvokingAtFits own.layout next → InvokingFits own.layout (record m { at = next })
enters_at own m at next fits there = record {
  comp = fits.comp;
  thread = fits.thread;
  core = fits.core;
  some_depth = fits.some_depth;
  most_depth = fits.most_depth;
  frames = fits.frames;
  few = fits.few;
  at = there;
}

leaves_at : (own : Own) (m : Returning) (at next : ReturningAt) → ReturningFits own.layout (record m { at = at })
    → ReturningAtFits own.layout next → ReturningFits own.layout (record m { at = next })
leaves_at own m at next fits there = record {
  top = fits.top;
  thread = fits.thread;
  core = fits.core;
  some_depth = fits.some_depth;
  most_depth = fits.most_depth;
  frames = fits.frames;
  few = fits.few;
  at = there;
}

module _ (own : Own) (a : ActiveCall) (facts : Facts own a) (room : own.made < own.limit) where
  refused : (left : ℕ) (r : Refusal) → 2 + length a.counts < left → TookFits own left a (landed a (refuse r))
  refused left r some =
      landed_fits own a a refl refl facts.found facts.acquired room 0 left (refuse r) (omega arith, tt) (omega arith)

  -- the act goes on where its first count is due
  counts_first : (core : ℕ) (act : ActType) → core < own.layout.cores
      → ActFits own.layout act → length (dues act) ≡ 1
      → act_left own.layout.cores act ≡ 3
      → length a.counts ≡ 0 → TookFits own (2 + length a.counts + 7) a (landed a (Goes (next_work core 0 act)))
  counts_first core act here fits one left waits =
      let next = work_next own.layout (steps_later own.layout.cores a) core 0 act (slice_get (dues act) 0) refl here fits in
      landed_fits own a a refl refl facts.found facts.acquired room 6 _ (Goes (next_work core 0 act)) (
        next.0,
        subst (λ (n : ℕ). work_left own.layout.cores (steps_later own.layout.cores a) n (next_work core 0 act) ≤ 6) (sym waits)
            (let fewer = next.1 in omega arith),
        counts_next core 0 a.counts act (slice_get (dues act) 0) refl (sym waits) (omega arith),
      ) (omega arith)

  pub invoke_fits : (m : Invoking) (at : InvokingAt) (found : ℕ) → InvokingFits own.layout (record m { at = at })
      → length a.counts ≡ length (invoking_dues m.comp at)
      → TookFits own (2 + length a.counts + invoking_left at) a (landed a (took_invoking_at m at found))
  invoke_fits m InvokingAt.LoadTable found fits waits = by (frame_in m.frames found) refl
    where
      by : (o : Option ℕ) → frame_in m.frames found ≡ o → TookFits own (2 + length a.counts + 9) a (landed a (meets_table m o))
      by None is = refused _ Refusal.Raced (omega arith)
      by (Some table) is = landed_fits own a a refl refl facts.found facts.acquired room 8 _
          (Goes (Act (invoke_act (record m { at = InvokingAt.LoadPages table })))) (
            enters_at own m InvokingAt.LoadTable (InvokingAt.LoadPages table) fits
                (subst (λ (n : ℕ). table < n) fits.frames (frame_below m.frames found table is)),
            omega arith,
            waits,
          ) (omega arith)
  invoke_fits m (InvokingAt.LoadPages table) found fits waits = by (frame_in m.frames found) refl
    where
      by : (o : Option ℕ) → frame_in m.frames found ≡ o → TookFits own (2 + length a.counts + 8) a (landed a (meets_pages m table o))
      by None is = refused _ Refusal.Raced (omega arith)
      by (Some pages) is = landed_fits own a a refl refl facts.found facts.acquired room 7 _
          (Goes (Act (invoke_act (record m { at = InvokingAt.LoadComp table pages })))) (
            enters_at own m (InvokingAt.LoadPages table) (InvokingAt.LoadComp table pages) fits
                (fits.at, subst (λ (n : ℕ). pages < n) fits.frames (frame_below m.frames found pages is)),
            omega arith,
            waits,
          ) (omega arith)
  invoke_fits m (InvokingAt.LoadComp table pages) found fits waits = by (comp_of_word found) refl
    where
      by : (o : Option CompWord) → comp_of_word found ≡ o → TookFits own (2 + length a.counts + 7) a (landed a (meets_gate m table pages o))
      by None is = refused _ Refusal.Raced (omega arith)
      by (Some life) is = counts_first m.core (invoke_act (record m { at = InvokingAt.LoadLive table pages life })) fits.core
          (enters_at own m (InvokingAt.LoadComp table pages) (InvokingAt.LoadLive table pages life) fits
          (fits.at.0, fits.at.1, (comps.spelling.spells found life is).0)) refl refl waits
  invoke_fits m (InvokingAt.LoadLive table pages life) found fits waits = by (live_of_word found)
    where
      lives : (same : Bool) → TookFits own (2 + length a.counts + 3) a (landed a (enters_if m table pages same))
      lives true = landed_fits own a a refl refl facts.found facts.acquired room 2 _ (enters_if m table pages true) (
        omega arith,
        (fits.thread, fits.some_depth, fits.most_depth),
        (fits.comp, fits.at.0, fits.at.1, omega arith, (let most = fits.most_depth in omega (arith, most))),
      ) (omega arith)
      lives false = refused _ Refusal.Dead (omega arith)

      number : (v : LiveWord) → TookFits own (2 + length a.counts + 3) a (landed a (enters_number m table pages v))
      number LiveWord.Free = refused _ Refusal.Dead (omega arith)
      number (LiveWord.Live epoch f) = lives (epoch == m.epoch)
      number (LiveWord.Closing epoch by) = refused _ (Refusal.Busy by) (omega arith)
      number (LiveWord.Dead epoch stamp) = refused _ Refusal.Dead (omega arith)

      by : (o : Option LiveWord) → TookFits own (2 + length a.counts + 3) a (landed a (enters_live m table pages o))
      by None = refused _ Refusal.Raced (omega arith)
      by (Some v) = number v

  pub return_fits : (m : Returning) (at : ReturningAt) (found : ℕ) → ReturningFits own.layout (record m { at = at })
      → length a.counts ≡ length (returning_dues m.top at)
      → TookFits own (2 + length a.counts + returning_left at) a (landed a (took_returning_at m at found))
  return_fits m ReturningAt.LoadBelow found fits waits = by (below_in m.frames found) refl
    where
      by : (o : Option ℕ) → below_in m.frames found ≡ o → TookFits own (2 + length a.counts + 9) a (landed a (meets_below m o))
      by None is = refused _ Refusal.Raced (omega arith)
      by (Some comp) is = landed_fits own a a refl refl facts.found facts.acquired room 8 _
          (Goes (Act (return_act (record m { at = ReturningAt.LoadTable comp })))) (
            leaves_at own m ReturningAt.LoadBelow (ReturningAt.LoadTable comp) fits
                (subst (λ (n : ℕ). comp < n) fits.frames (stack_below m.frames comp (stack_of_word found) is)),
            omega arith,
            waits,
          ) (omega arith)
  return_fits m (ReturningAt.LoadTable comp) found fits waits = by (frame_in m.frames found) refl
    where
      by : (o : Option ℕ) → frame_in m.frames found ≡ o → TookFits own (2 + length a.counts + 8) a (landed a (meets_below_table m comp o))
      by None is = refused _ Refusal.Raced (omega arith)
      by (Some table) is = landed_fits own a a refl refl facts.found facts.acquired room 7 _
          (Goes (Act (return_act (record m { at = ReturningAt.LoadPages comp table })))) (
            leaves_at own m (ReturningAt.LoadTable comp) (ReturningAt.LoadPages comp table) fits
                (fits.at, subst (λ (n : ℕ). table < n) fits.frames (frame_below m.frames found table is)),
            omega arith,
            waits,
          ) (omega arith)
  return_fits m (ReturningAt.LoadPages comp table) found fits waits = by (frame_in m.frames found) refl
    where
      by : (o : Option ℕ) → frame_in m.frames found ≡ o
          → TookFits own (2 + length a.counts + 7) a (landed a (meets_below_pages m comp table o))
      by None is = refused _ Refusal.Raced (omega arith)
      by (Some pages) is = counts_first m.core (return_act (record m { at = ReturningAt.Draw comp table pages })) fits.core
          (leaves_at own m (ReturningAt.LoadPages comp table) (ReturningAt.Draw comp table pages) fits
          (fits.at.0, fits.at.1, subst (λ (n : ℕ). pages < n) fits.frames (frame_below m.frames found pages is))) refl refl waits
  return_fits m (ReturningAt.Draw comp table pages) found fits waits =
      landed_fits own a a refl refl facts.found facts.acquired room 2 _ (left_to m comp table pages (drawn_stamp found)) (
        omega arith,
        (fits.thread, fits.some_depth, fits.most_depth),
        (
          fits.at.0,
          fits.at.1,
          fits.at.2,
          (let some = fits.some_depth in omega (arith, some)),
          (let most = fits.most_depth in omega (arith, most)),
        ),
      ) (omega arith)

-- the stores of a push and of a pop
pub push_fits : (own : Own) (a : ActiveCall) (r : Reply) (drawn : Option ℕ) (x : PushType) (counts : List Acquired) → Facts own a
    → PushFits own.layout x → a.counts ≡ counts
    → TookFits own (left_at own.layout.cores a (Decided r drawn (Push x))) a (GoesOn (went_with a counts (Decided r drawn (pushed_on x))))
push_fits own a r drawn (PushType.AtStack t core depth comp) counts facts fits is = record {
  call = refl;
  found = facts.found;
  first = tt;
  stage = fits;
  acquired = subst (AllFit own.layout) is facts.acquired;
  counts = tt;
  room = tt;
  counted = facts.own_fits.made;
  steps = refl;
  fewer = let same : length a.counts ≡ length counts = ap length is in omega arith;
}
push_fits own a r drawn (PushType.AtThread t core depth) counts facts fits is = record {
  call = refl;
  found = facts.found;
  first = tt;
  stage = tt;
  acquired = subst (AllFit own.layout) is facts.acquired;
  counts = tt;
  room = tt;
  counted = facts.own_fits.made;
  steps = refl;
  fewer = let same : length a.counts ≡ length counts = ap length is in omega arith;
}

pub pop_fits : (own : Own) (a : ActiveCall) (r : Reply) (drawn : Option ℕ) (x : PopType) (counts : List Acquired) → Facts own a
    → PopFits own.layout x → a.counts ≡ counts
    → TookFits own (left_at own.layout.cores a (Decided r drawn (Pop x))) a (GoesOn (went_with a counts (Decided r drawn (popped_on x))))
pop_fits own a r drawn (PopType.AtThread t core depth) counts facts fits is = record {
  call = refl;
  found = facts.found;
  first = tt;
  stage = fits;
  acquired = subst (AllFit own.layout) is facts.acquired;
  counts = tt;
  room = tt;
  counted = facts.own_fits.made;
  steps = refl;
  fewer = let same : length a.counts ≡ length counts = ap length is in omega arith;
}
pop_fits own a r drawn (PopType.AtStack t depth) counts facts fits is = record {
  call = refl;
  found = facts.found;
  first = tt;
  stage = tt;
  acquired = subst (AllFit own.layout) is facts.acquired;
  counts = tt;
  room = tt;
  counted = facts.own_fits.made;
  steps = refl;
  fewer = let same : length a.counts ≡ length counts = ap length is in omega arith;
}
