-- Where the steps of an untyping lead to fits its machine, and leaves fewer steps.
use Rattle.call_stages.specs.act_states.specs.{◌≡◌, ℕ, suc, ℤ, ◌≢◌, ltb as nat_lt, if◌then◌else◌, ◌+◌, ◌*◌, ◌-◌, ◌++◌, ◌<◌, ◌≤◌, ◌==◌, Bool}
use Rattle.call_stages.specs.act_states.specs.{true, false, List, [], ◌∷◌, length, Option, Some, None, IfSome, refl, slice_get, FrameKind}
use Rattle.call_stages.specs.act_states.specs.{Obj, Reply, StageEnd, word_of_count, count_of_word, word_of_frame, frame_of_word, CountWord}
use Rattle.call_stages.specs.act_states.specs.{FrameWord, stack_of_word, StackWord, Shape, IsShape, unheld, Acquired, AllFit, drawn_stamp}
use Rattle.call_stages.specs.act_states.specs.{QuietFits, first_other, next_other, flush_scan, core_scan, quiet_scan, quiet_refuses}
use Rattle.call_stages.specs.act_states.specs.{scan_end, scan_after, quiet_end, quiet_after, Quiet, AtCore, AtFlush, counters_of}
use Rattle.call_stages.specs.act_states.specs.{sum_of_counts, latest_stamp, loads_of, may_be_cached, at_after, swept_of, end_by, ThawFits}
use Rattle.call_stages.specs.act_states.specs.{Owned, Sweep, SweepAt, Swept, Thaw, refusal_of, refuse, typed, OwnedBy, UntypingFits}
use Rattle.call_stages.specs.act_states.specs.{released_dues, owned_dues, untyping_dues, release_of, thaw_left_by, release_after}
use Rattle.call_stages.specs.act_states.specs.{untyping_undo, dues, next_work, meets_untyped, meets_untyping, sweeps_if, took_sweep}
use Rattle.act_fits.proofs.Common.{sym, ap, subst, arith, ltb-true, ltb-false, eqb-true, eqb-false, Untyped, User, Kernel, Refusal, Own}
use Rattle.act_fits.proofs.Common.{UntypingAt, ActType, untype_act, Tail, Act, Goes, Refuses, ActiveCall, Decided, GoesOn, landed}
use Rattle.act_fits.proofs.Common.{went_with, took_tail, tail_counts, tail_left, TailFits, steps_later, work_left, left_at}
use Rattle.call_stages.specs.stage_sweep.specs.{empty_refuses, AtFits, frozen_if, frozen_at, kept_with, load_refuses, compare_refuses}
use Rattle.call_stages.specs.stage_sweep.specs.{sum_refuses, refusal_of as quiet_refusal, refuses_at, load_next, empty_next, scan_next}
use Rattle.call_stages.specs.stage_sweep.specs.{compare_next, scan_goes, sweep_kept, sweep_refuses, sweep_next, sweep_after, sweep_end}
use Rattle.std.proofs.{Common.length-append, lemmas.List.Elements.All-nil, lemmas.List.Elements.All-tail}
use Rattle.call_stages.specs.stage_sweep.specs.Emptiness.{frame_if, place_owned, stack_owned, owns, owned_after}
use Rattle.call_stages.specs.stage_sweep.specs.Freeze.{hold_refuses, next_at, owned_at}
use Rattle.call_stages.specs.stage_sweep.proofs.SweepLemmas.{counters_within, some_counter, sweep_after_fits}
use Rattle.call_stages.specs.act_states.specs.declared.untypings.UntypingAt.TheVariants.{Load, Mark, Sweep as sweep_at, Draw}
use Rattle.call_stages.specs.act_states.specs.Untypings.{owned_most, OwnedFits, SweepAtFits, SweepsFrame, SweptFits, ReleaseFits}
use Rattle.call_stages.specs.act_states.specs.Untypings.{after_store, thaw_left, release_left, others_left, quiet_left, object_left}
use Rattle.call_stages.specs.act_states.specs.Untypings.{sweep_left, untyping_left}
use Rattle.call_stages.specs.act_states.specs.Taking.{sweep_from, drawn_untyped}
use Rattle.act_fits.proofs.{DuesFit.work_next, DuesFit.counts_next, LandsFit.TookFits, LandsFit.Facts, LandsFit.landed_fits}
use Rattle.{call_stages.specs.act_states.specs.took_untyping_at, call_stages.specs.stage_pins.specs.Held.AcquiredFits}
use Rattle.{call_stages.specs.act_states.specs.declared.untypings.Release.Release}
use Rattle.{call_stages.specs.act_states.specs.declared.untypings.Untyping.Untyping}
use Rattle.{call_stages.specs.act_states.specs.declared.work.Tail.TheVariants.Release as release_tail}
use Rattle.call_stages.specs.frame_words.proofs.FrameLemmas as frames

-- the words of an object, with the counts that it releases, are few
object_few : (o : Obj) → object_left o ≤ 64
object_few Obj.Blank = omega arith
object_few _ = omega arith

-- nothing is known yet of what an object names
owned_none : (o : Obj) → OwnedBy o (record { first = None; second = None })
owned_none Obj.Comp = tt
owned_none Obj.Thread = refl
owned_none _ = (refl, refl)

-- so many counts are due of it at most
two_most : (f g : Option ℕ) → length (released_dues f g) ≤ 2
two_most None None = omega arith
two_most None (Some g) = omega arith
two_most (Some f) None = omega arith
two_most (Some f) (Some g) = omega arith

one_most : (f g : Option ℕ) → g ≡ None → length (released_dues f g) ≤ 1
one_most None None is = omega arith
one_most (Some f) None is = omega arith
one_most f (Some g) is = absurd (cc)

none_due : (f g : Option ℕ) → f ≡ None → g ≡ None → length (released_dues f g) ≤ 0
none_due None None is nil = omega arith
none_due _ _ is nil = absurd (cc)

owned_few : (object : Obj) (o : Owned) → OwnedBy object o → length (owned_dues o) ≤ owned_most object
owned_few Obj.Comp o by = two_most o.first o.second
owned_few Obj.Thread o by = one_most o.first o.second by
owned_few Obj.Blank o by = none_due o.first o.second by.0 by.1
owned_few Obj.Table o by = none_due o.first o.second by.0 by.1
owned_few Obj.Leaf o by = none_due o.first o.second by.0 by.1
owned_few Obj.Pages o by = none_due o.first o.second by.0 by.1
owned_few Obj.Pleaf o by = none_due o.first o.second by.0 by.1
owned_few Obj.Tcap o by = none_due o.first o.second by.0 by.1

-- what a step finds that it names are frames of the machine
frame_below : (frames : ℕ) (f : ℕ) → IfSome (frame_if (nat_lt f frames) f) (λ g. g < frames)
frame_below frames f = by (nat_lt f frames) refl
  where
    by : (within : Bool) → nat_lt f frames ≡ within → IfSome (frame_if within f) (λ g. g < frames)
    by true is = ltb-true f frames is
    by false is = tt

place_below : (frames : ℕ) (o : Option ℕ) → IfSome (place_owned frames o) (λ g. g < frames)
place_below frames None = tt
place_below frames (Some f) = frame_below frames f

stack_below : (frames : ℕ) (o : Option StackWord) → IfSome (stack_owned frames o) (λ g. g < frames)
stack_below frames None = tt
stack_below frames (Some v) = place_below frames v.0

owns_fits : (frames : ℕ) (first : Bool) (f : Option ℕ) (o : Owned) → IfSome f (λ g. g < frames) → OwnedFits frames o
    → OwnedFits frames (owns first f o)
owns_fits frames true f o below fits = record { first = below; second = fits.second }
owns_fits frames false f o below fits = record { first = fits.first; second = below }

after_fits : (frames : ℕ) (object : Obj) (at found : ℕ) (o : Owned) → OwnedFits frames o
    → OwnedFits frames (owned_after frames object at found o)
after_fits frames Obj.Comp at found o fits = owns_fits frames (at == 0) _ o (frame_below frames found) fits
after_fits frames Obj.Thread at found o fits = by (at == 0)
  where
    by : (first : Bool) → OwnedFits frames (if first then o else owns true (stack_owned frames (stack_of_word found)) o)
    by true = fits
    by false = owns_fits frames true _ o (stack_below frames (stack_of_word found)) fits
after_fits frames _ at found o fits = fits

after_by : (frames : ℕ) (object : Obj) (at found : ℕ) (o : Owned) → OwnedBy object o
    → OwnedBy object (owned_after frames object at found o)
after_by frames Obj.Comp at found o by = tt
after_by frames Obj.Thread at found o is = by (at == 0)
  where
    by : (first : Bool) → (if first then o else owns true (stack_owned frames (stack_of_word found)) o).second ≡ None
    by true = is
    by false = is
after_by frames _ at found o by = by

owned_fits : (s : Shape) (object : Obj) (at : SweepAt) (found : ℕ) (o : Owned) → OwnedFits s.frames o
    → OwnedFits s.frames (owned_at s object at found o)
owned_fits s object (SweepAt.Empty entry) found o fits = after_fits s.frames object entry found o fits
owned_fits s object _ found o fits = fits

owned_by : (s : Shape) (object : Obj) (at : SweepAt) (found : ℕ) (o : Owned) → OwnedBy object o
    → OwnedBy object (owned_at s object at found o)
owned_by s object (SweepAt.Empty entry) found o by = after_by s.frames object entry found o by
owned_by s object _ found o by = by

-- no more counters are frozen than the frame has
kept_fits : (s : Shape) (kept : List CountWord) (at : SweepAt) (found : ℕ) → AtFits s kept at → length kept ≤ counters_of s
    → length (kept_with kept (frozen_at at found)) ≤ counters_of s
kept_fits s kept (SweepAt.Compare count stamp) found fits few = by (found == word_of_count (unheld count stamp))
  where
    by : (same : Bool) → length (kept_with kept (frozen_if same (unheld count stamp))) ≤ counters_of s
    by true = let one = length-append kept (unheld count stamp ∷ []) in let below = fits.0 in omega (arith, one, below)
    by false = few
kept_fits s kept _ found fits few = few

-- each word that a scan loads leaves fewer to load
others_fewer : (cores core at : ℕ) → core < cores → next_other core at < cores
    → others_left cores core (next_other core at) < others_left cores core at
others_fewer cores core at here below = by (nat_lt at core) (nat_lt (next_other core at) core) (at + 1 == core) refl refl refl
  where
    left : Bool → ℕ → ℕ
    left b n = if b then cores - n - 1 else cores - n

    next_is : (one : Bool) → (at + 1 == core) ≡ one → next_other core at ≡ (if one then at + 2 else at + 1)
    next_is one is = ap (λ b. if b then at + 2 else at + 1) is

    go : (less next one : Bool) → nat_lt at core ≡ less → nat_lt (next_other core at) core ≡ next → (at + 1 == core) ≡ one
        → left next (next_other core at) < left less at
    go true true true a b d = let n = next_is true d in
        let e = eqb-true (at + 1) core d in let l = ltb-true (next_other core at) core b in absurd (omega (arith, n, e, l))
    go true true false a b d = let n = next_is false d in
        let l = ltb-true (next_other core at) core b in omega (arith, n, l, here)
    go true false true a b d = let n = next_is true d in omega (arith, n, below)
    go true false false a b d = let n = next_is false d in
        let e = eqb-false (at + 1) core d in
        let l = ltb-true at core a in
        let m = ltb-false (next_other core at) core b in absurd (e (omega (arith, n, l, m)))
    go false true one a b d = let l = ltb-false at core a in
        let m = ltb-true (next_other core at) core b in absurd (past one d l m)
      where
        past : (one : Bool) → (at + 1 == core) ≡ one → core ≤ at → next_other core at < core → ⊥
        past true d l m = let n = next_is true d in omega (arith, n, l, m)
        past false d l m = let n = next_is false d in omega (arith, n, l, m)
    go false false true a b d = let n = next_is true d in
        let l = ltb-false at core a in let e = eqb-true (at + 1) core d in absurd (omega (arith, l, e))
    go false false false a b d = let n = next_is false d in omega (arith, n, below)

    by : (less next one : Bool) → nat_lt at core ≡ less → nat_lt (next_other core at) core ≡ next → (at + 1 == core) ≡ one
        → others_left cores core (next_other core at) < others_left cores core at
    by less next one a b d = subst (λ x. left x (next_other core at) < left (nat_lt at core) at) (sym b)
        (subst (λ x. left next (next_other core at) < left x at) (sym a) (go less next one a b d))

-- and there is one more to load
others_some : (cores core at : ℕ) → core < cores → at < cores → at ≢ core → 1 ≤ others_left cores core at
others_some cores core at here below apart = by (nat_lt at core) refl
  where
    by : (less : Bool) → nat_lt at core ≡ less → 1 ≤ (if less then cores - at - 1 else cores - at)
    by true is = let l = ltb-true at core is in omega (arith, l, here)
    by false is = omega (arith, below)

quiet_some : (s : Shape) (core : ℕ) (object : Obj) (q : Quiet) → core < s.cores → QuietFits s q → SweepAtFits core object (SweepAt.Scan q)
    → 1 ≤ quiet_left s.cores q
quiet_some s core object (AtCore stamp by at page) here fits at_fits =
    let some = others_some s.cores by at (subst (λ c. c < s.cores) (sym at_fits) here) fits.0 fits.1 in more page some
  where
    more : (page : Bool) → 1 ≤ others_left s.cores by at → 1 ≤ others_left s.cores by at + (if page then s.cores else 0)
    more true some = omega (arith, some)
    more false some = omega (arith, some)
quiet_some s core object (AtFlush stamp at) here fits at_fits = omega (arith, fits)

-- a step of a scan that goes on is by the same core, and leaves fewer
abbrev QuietFalls : Shape → ℕ → Obj → Quiet → Quiet → Type 0
QuietFalls s core object q next = SweepAtFits core object (SweepAt.Scan next) × (quiet_left s.cores next < quiet_left s.cores q)

quiet_falls : (s : Shape) (core : ℕ) (object : Obj) (q : Quiet) (found : ℕ) → core < s.cores → QuietFits s q
    → SweepAtFits core object (SweepAt.Scan q) → quiet_end s.cores q found ≡ StageEnd.Going
    → QuietFalls s core object q (quiet_after s.cores q found)
quiet_falls s core object (AtCore stamp by at page) found here fits is goes =
    step (quiet_refuses (AtCore stamp by at page) found) (nat_lt (next_other by at) s.cores) refl page goes
  where
    first : by < s.cores
    first = subst (λ c. c < s.cores) (sym is) here

    step : (refused : Option Reply) (there : Bool) → nat_lt (next_other by at) s.cores ≡ there → (page : Bool)
        → scan_end refused (core_scan there stamp by (next_other by at) page) ≡ StageEnd.Going
        → QuietFalls s core object (AtCore stamp by at page)
        (scan_after (AtCore stamp by at page) refused (core_scan there stamp by (next_other by at) page))
    step (Some r) there below page goes = absurd (cc)
    step None true below true goes =
        let fewer = others_fewer s.cores by at first (ltb-true (next_other by at) s.cores below) in (is, omega (arith, fewer))
    step None true below false goes =
        let fewer = others_fewer s.cores by at first (ltb-true (next_other by at) s.cores below) in (is, omega (arith, fewer))
    step None false below true goes =
        let some = others_some s.cores by at first fits.0 fits.1 in (tt, omega (arith, some))
    step None false below false goes = absurd (cc)
quiet_falls s core object (AtFlush stamp at) found here fits is goes =
    step (quiet_refuses (AtFlush stamp at) found) (nat_lt (at + 1) s.cores) goes
  where
    step : (refused : Option Reply) (there : Bool)
        → scan_end refused (if there then Some (AtFlush stamp (at + 1)) else None) ≡ StageEnd.Going
        → QuietFalls s core object (AtFlush stamp at)
        (scan_after (AtFlush stamp at) refused (if there then Some (AtFlush stamp (at + 1)) else None))
    step (Some r) there goes = absurd (cc)
    step None true goes = (tt, omega (arith, fits))
    step None false goes = absurd (cc)

-- a scan of the other cores and of all flush words has so many loads at most
abbrev ScanFew : Shape → ℕ → Obj → Option Quiet → Type 0
ScanFew s core object None = Unit {0}
ScanFew s core object (Some q) = SweepAtFits core object (SweepAt.Scan q) × (quiet_left s.cores q ≤ 2 * s.cores - 1)

scan_few : (s : Shape) (core stamp : ℕ) (object : Obj) (page : Bool) → core < s.cores
    → ScanFew s core object (quiet_scan stamp core s.cores page)
scan_few s core stamp object page here = by_stamp (stamp == 0)
  where
    flushes : (page : Bool) → ScanFew s core object (flush_scan page stamp)
    flushes true = (tt, omega (arith, here))
    flushes false = tt

    others : (none : Bool) → (core == 0) ≡ none → others_left s.cores core (first_other core) ≤ s.cores - 1
    others true is =
        let zero = eqb-true core 0 is in
        subst (λ c. others_left s.cores c (first_other c) ≤ s.cores - 1) (sym zero) (omega arith)
    others false is =
        let some = eqb-false core 0 is in
        let first : first_other core ≡ 0 = ap (λ b. if b then 1 else 0) is in
        subst (λ n. others_left s.cores core n ≤ s.cores - 1) (sym first) (at_zero (nat_lt 0 core) refl some)
      where
        at_zero : (b : Bool) → nat_lt 0 core ≡ b → core ≢ 0 → (if b then s.cores - 0 - 1 else s.cores - 0) ≤ s.cores - 1
        at_zero true is some = omega arith
        at_zero false is some = let low = ltb-false 0 core is in absurd (some (omega (arith, low)))

    by_first : (there : Bool) (page : Bool) → ScanFew s core object (core_scan there stamp core (first_other core) page)
    by_first true true = let few = others (core == 0) refl in (refl, omega (arith, few, here))
    by_first true false = let few = others (core == 0) refl in (refl, omega (arith, few, here))
    by_first false page = flushes page

    by_stamp : (none : Bool)
        → ScanFew s core object (if none then None else core_scan (nat_lt (first_other core) s.cores) stamp core (first_other core) page)
    by_stamp true = tt
    by_stamp false = by_first (nat_lt (first_other core) s.cores) page

-- a step of a sweep that goes on leaves fewer steps
module _ (s : Shape) (w : Sweep) (found : ℕ) (shape : IsShape s) (h : SweepsFrame s w) where
  abbrev object : Obj
  object = w.word.object

  here : w.core < s.cores
  here = h.fits.core

  most : counters_of s ≤ s.cores
  most = counters_within s shape

  abbrev Falls : ℕ → ℕ → SweepAt → Type 0
  Falls before kept at = SweepAtFits w.core object at × (sweep_left s.cores object kept at < before)

  abbrev FallsIf : ℕ → ℕ → SweepAt → Option Reply → Option SweepAt → Type 0
  FallsIf before kept at r next = (swept : Swept) → end_by r next swept ≡ StageEnd.Going → Falls before kept (at_after at r next)

  falls_none : (before kept : ℕ) (at : SweepAt) (r : Option Reply) → FallsIf before kept at r None
  falls_none before kept at (Some r) swept goes = absurd (cc)
  falls_none before kept at None swept goes = absurd (cc)

  falls_to : (before kept : ℕ) (at next : SweepAt) (r : Option Reply) → Falls before kept next → FallsIf before kept at r (Some next)
  falls_to before kept at next (Some r) falls swept goes = absurd (cc)
  falls_to before kept at next None falls swept goes = falls

  -- the object is looked at, where it has words to look at
  falls_empty : (before kept : ℕ) (at : SweepAt) (r : Option Reply) → object_left object < before
      → FallsIf before kept at r (empty_next object)
  falls_empty before kept at r few = by (loads_of object == 0) refl
    where
      by : (none : Bool) → (loads_of object == 0) ≡ none → FallsIf before kept at r (if none then None else Some (SweepAt.Empty 0))
      by true is = falls_none before kept at r
      by false is = falls_to before kept at (SweepAt.Empty 0) r
          (let some = eqb-false (loads_of object) 0 is in omega (arith, some), omega (arith, few))

  falls_scan : (before kept : ℕ) (at : SweepAt) (r : Option Reply) (o : Option Quiet) → ScanFew s w.core object o
      → 2 * s.cores - 1 + object_left object < before → FallsIf before kept at r (scan_next object o)
  falls_scan before kept at r None few some = falls_empty before kept at r (omega (arith, some))
  falls_scan before kept at r (Some q) few some = falls_to before kept at (SweepAt.Scan q) r (few.0, omega (arith, few.1, some))

  falls_compare : (count : ℤ) (stamp : ℕ) → length w.kept < counters_of s → (same : Bool)
      → FallsIf (sweep_left s.cores object (length w.kept) (SweepAt.Compare count stamp))
      (length (kept_with w.kept (frozen_if same (unheld count stamp)))) (SweepAt.Compare count stamp)
      (compare_refuses same (nat_lt (length (kept_with w.kept (frozen_if same (unheld count stamp)))) (counters_of s))
      (sum_of_counts (kept_with w.kept (frozen_if same (unheld count stamp)))))
      (compare_next (nat_lt (length (kept_with w.kept (frozen_if same (unheld count stamp)))) (counters_of s)) object
      (quiet_scan (latest_stamp (kept_with w.kept (frozen_if same (unheld count stamp)))) w.core s.cores
      (may_be_cached w.word.kind object)))
  falls_compare count stamp low false = λ swept goes. absurd (cc)
  falls_compare count stamp low true =
      by (nat_lt (length kept) (counters_of s)) refl
    where
      kept : List CountWord
      kept = w.kept ++ unheld count stamp ∷ []

      one : length kept ≡ length w.kept + 1
      one = length-append w.kept (unheld count stamp ∷ [])

      before : ℕ
      before = sweep_left s.cores object (length w.kept) (SweepAt.Compare count stamp)

      scan : Option Quiet
      scan = quiet_scan (latest_stamp kept) w.core s.cores (may_be_cached w.word.kind object)

      by : (more : Bool) → nat_lt (length kept) (counters_of s) ≡ more
          → FallsIf before (length kept) (SweepAt.Compare count stamp) (compare_refuses true more (sum_of_counts kept))
          (compare_next more object scan)
      by true is = falls_to before (length kept) (SweepAt.Compare count stamp) SweepAt.Load None
          (tt, let below = most in omega (arith, one, low, below))
      by false is = falls_scan before (length kept) (SweepAt.Compare count stamp) (sum_refuses (sum_of_counts kept)) scan
          (scan_few s w.core (latest_stamp kept) object (may_be_cached w.word.kind object) here)
          (let below = most in omega (arith, low, below))

  falls_scanning : (q next : Quiet) (end : StageEnd (Unit {0})) → 1 ≤ quiet_left s.cores q
      → (end ≡ StageEnd.Going → QuietFalls s w.core object q next)
      → FallsIf (sweep_left s.cores object (length w.kept) (SweepAt.Scan q)) (length w.kept) (SweepAt.Scan q) (quiet_refusal end)
      (scan_goes object end next)
  falls_scanning q next StageEnd.Going some falls =
      let on = falls refl in
      let fewer = on.1 in
      falls_to (quiet_left s.cores q + object_left object) (length w.kept) (SweepAt.Scan q) (SweepAt.Scan next) None
      (on.0, omega (arith, fewer))
  falls_scanning q next (StageEnd.Done x) some falls =
      falls_empty (quiet_left s.cores q + object_left object) (length w.kept) (SweepAt.Scan q) None (omega (arith, some))
  falls_scanning q next _ some falls = λ swept goes. absurd (cc)

  falls_at : (at : SweepAt) → AtFits s w.kept at → SweepAtFits w.core object at
      → FallsIf (sweep_left s.cores object (length w.kept) at) (length (kept_with w.kept (frozen_at at found))) at
      (refuses_at s object (kept_with w.kept (frozen_at at found)) at found)
      (next_at s w.word w.core (kept_with w.kept (frozen_at at found)) at found)
  falls_at SweepAt.Load fits is = by (count_of_word found)
    where
      by : (o : Option CountWord) → FallsIf (sweep_left s.cores object (length w.kept) SweepAt.Load) (length w.kept) SweepAt.Load
          (load_refuses o) (load_next o)
      by None = λ swept goes. absurd (cc)
      by (Some v) = falls_to (sweep_left s.cores object (length w.kept) SweepAt.Load) (length w.kept) SweepAt.Load
          (SweepAt.Compare v.count v.stamp) (hold_refuses v.hold)
          (tt, let below = most in omega (arith, fits, below))
  falls_at (SweepAt.Compare count stamp) fits is = falls_compare count stamp fits.0 (found == word_of_count (unheld count stamp))
  falls_at (SweepAt.Scan q) fits is = falls_scanning q (quiet_after s.cores q found) (quiet_end s.cores q found)
      (quiet_some s w.core object q here fits is) (quiet_falls s w.core object q found here fits is)
  falls_at (SweepAt.Empty entry) fits is = by (nat_lt (entry + 1) (loads_of object)) refl
    where
      by : (more : Bool) → nat_lt (entry + 1) (loads_of object) ≡ more
          → FallsIf (sweep_left s.cores object (length w.kept) (SweepAt.Empty entry)) (length w.kept) (SweepAt.Empty entry)
          (empty_refuses s.frames object entry found)
          (if more then Some (SweepAt.Empty (entry + 1)) else None)
      by true less = falls_to (sweep_left s.cores object (length w.kept) (SweepAt.Empty entry)) (length w.kept) (SweepAt.Empty entry)
          (SweepAt.Empty (entry + 1)) (empty_refuses s.frames object entry found)
          (ltb-true (entry + 1) (loads_of object) less, let low = ltb-true (entry + 1) (loads_of object) less in omega (arith, low))
      by false less = falls_none (sweep_left s.cores object (length w.kept) (SweepAt.Empty entry)) (length w.kept) (SweepAt.Empty entry)
          (empty_refuses s.frames object entry found)

  kept_after : length (sweep_kept w found) ≤ counters_of s
  kept_after = kept_fits s w.kept w.at found h.fits.at h.kept

  goes_on : sweep_end s w found ≡ StageEnd.Going
      → SweepsFrame s (sweep_after s w found)
      × (sweep_left s.cores object (length (sweep_kept w found)) (sweep_after s w found).at
      < sweep_left s.cores object (length w.kept) w.at)
  goes_on goes =
      let falls = falls_at w.at h.fits.at h.at (swept_of (sweep_after s w found)) goes in (
        record {
          fits = sweep_after_fits s w found goes h.fits;
          kept = kept_after;
          owned = owned_fits s object w.at found w.owned h.owned;
          object = owned_by s object w.at found w.owned h.object;
          at = falls.0;
        },
        falls.1,
      )

  ended : SweptFits s (swept_of (sweep_after s w found))
  ended = record { frame = h.fits.frame; kept = kept_after; owned = owned_fits s object w.at found w.owned h.owned }

  due_few : length (owned_dues (sweep_after s w found).owned) ≤ owned_most object
  due_few = owned_few object (sweep_after s w found).owned (owned_by s object w.at found w.owned h.object)

  -- and there is one more to come
  some_left : 1 + 3 * owned_most object ≤ sweep_left s.cores object (length w.kept) w.at
  some_left = by w.at h.fits.at h.at
    where
      by : (at : SweepAt) → AtFits s w.kept at → SweepAtFits w.core object at
          → 1 + 3 * owned_most object ≤ sweep_left s.cores object (length w.kept) at
      by SweepAt.Load fits is = let below = most in omega (arith, fits, below)
      by (SweepAt.Compare count stamp) fits is = let low = fits.0 in let below = most in omega (arith, low, below)
      by (SweepAt.Scan q) fits is = let some = quiet_some s w.core object q here fits is in omega (arith, some)
      by (SweepAt.Empty entry) fits is = omega (arith, is)

done_is : (r : Option Reply) (next : Option SweepAt) (swept done : Swept) → end_by r next swept ≡ StageEnd.Done done → done ≡ swept
done_is None None swept done is = cc
done_is _ _ swept done is = absurd (cc)

-- the counters of a sweep, from the first on, and those after one that is stored
abbrev thaw_from : Swept → Bool → Thaw
thaw_from w clear = record { frame = w.frame; words = w.words; clear = clear; at = 0 }

abbrev thaw_next : Thaw → Bool → Thaw
thaw_next t more = record { frame = t.frame; words = t.words; clear = t.clear; at = if more then t.at + 1 else t.at }

abbrev thaw_more : Thaw → Bool → Option Thaw
thaw_more t more = thaw_left_by (thaw_next t more) (if more then StageEnd.Going else StageEnd.Done tt)

-- what is to be stored of a frame that was swept is of the machine, and so many stores
release_fits : (s : Shape) (f word : ℕ) (w : Swept) (clear : Bool) → f < s.frames → SweptFits s w
    → ReleaseFits s (release_of f word w clear) × (release_left (release_of f word w clear) ≤ 1 + length w.words)
release_fits s f word w clear below fits = by (length w.words == 0) refl
  where
    by : (none : Bool) → (length w.words == 0) ≡ none
        → ReleaseFits s (record { frame = f; word = word; thaw = if none then None else Some (thaw_from w clear) })
        × (1 + thaw_left (if none then None else Some (thaw_from w clear)) ≤ 1 + length w.words)
    by true is = (record { frame = below; thaw = tt }, omega arith)
    by false is =
        let some = eqb-false (length w.words) 0 is in
        (record { frame = below; thaw = record { frame = fits.frame; at = omega (arith, some); words = fits.kept } }, omega arith)

-- each store leaves one less
stored_fits : (s : Shape) (x : Release) → ReleaseFits s x
    → TailFits s (release_after x) × (tail_left (release_after x) < release_left x)
stored_fits s x fits = by x.thaw fits.thaw
  where
    by : (o : Option Thaw) → IfSome o (ThawFits s) → TailFits s (after_store x o) × (tail_left (after_store x o) < 1 + thaw_left o)
    by None thaws = (tt, omega arith)
    by (Some t) thaws = on (nat_lt (t.at + 1) (length t.words)) refl
      where
        on : (more : Bool) → nat_lt (t.at + 1) (length t.words) ≡ more
            → ReleaseFits s (record x { thaw = thaw_more t more })
            × (1 + thaw_left (thaw_more t more) < 1 + (length t.words - t.at))
        on true is = let low = ltb-true (t.at + 1) (length t.words) is in (
          record { frame = fits.frame; thaw = record { frame = thaws.frame; at = low; words = thaws.words } },
          omega (arith, low),
        )
        on false is = let low = thaws.at in (record { frame = fits.frame; thaw = tt }, omega (arith, low))

-- the counts are committed first, and then these stores are made
pub released_fits : (own : Own) (a : ActiveCall) (r : Reply) (drawn : Option ℕ) (x : Release) (counts : List Acquired) (found : ℕ)
    → Facts own a → a.counts ≡ counts → ReleaseFits own.layout x
    → TookFits own (left_at own.layout.cores a (Decided r drawn (release_tail x))) a
    (GoesOn (went_with a (tail_counts (release_tail x) counts) (took_tail r drawn (release_tail x) counts found)))
released_fits own a r drawn x [] found facts is fits =
    let stored = stored_fits own.layout x fits in record {
      call = refl;
      found = facts.found;
      first = tt;
      stage = stored.0;
      acquired = All-nil (AcquiredFits own.layout);
      counts = tt;
      room = tt;
      counted = facts.own_fits.made;
      steps = refl;
      fewer = let few = stored.1 in omega (arith, few);
    }
released_fits own a r drawn x (count ∷ xs) found facts is fits = record {
  call = refl;
  found = facts.found;
  first = tt;
  stage = fits;
  acquired = All-tail (AcquiredFits own.layout) count xs (subst (AllFit own.layout) is facts.acquired);
  counts = tt;
  room = tt;
  counted = facts.own_fits.made;
  steps = refl;
  fewer = let one : length a.counts ≡ suc (length xs) = ap length is in omega (arith, one);
}

-- what a refused call has still to store is of the machine
pub undone_fits : (s : Shape) (m : Untyping) (at : UntypingAt) → IsShape s → UntypingFits s (record m { at = at })
    → TailFits s (untyping_undo m.frame at) × (tail_left (untyping_undo m.frame at) ≤ untyping_left s.cores at)
undone_fits s m (sweep_at word w) shape fits =
    let sweeps : SweepsFrame s w = fits.at in
    let back = release_fits s m.frame word (swept_of w) false fits.frame
    (record { frame = sweeps.fits.frame; kept = sweeps.kept; owned = sweeps.owned }) in
    let few = back.1 in let kept = sweeps.kept in let below = counters_within s shape in (back.0, omega (arith, few, kept, below))
undone_fits s m (Draw word w) shape fits =
    let back = release_fits s m.frame word w false fits.frame fits.at in let few = back.1 in (back.0, omega (arith, few))
undone_fits s m _ shape fits = (tt, omega arith)

module _ (own : Own) (a : ActiveCall) (facts : Facts own a) (room : own.made < own.limit) where
  refused : (left : ℕ) (r : Refusal) → 2 + length a.counts < left → TookFits own left a (landed a (refuse r))
  refused left r some =
      landed_fits own a a refl refl facts.found facts.acquired room 0 left (refuse r) (omega arith, tt) (omega arith)

  undone : (left : ℕ) (r : Refusal) (tail : Tail) → TailFits own.layout tail → 2 + length a.counts + tail_left tail < left
      → TookFits own left a (landed a (Refuses r tail))
  undone left r tail fits some =
      landed_fits own a a refl refl facts.found facts.acquired room (tail_left tail) left (Refuses r tail) (omega arith, fits)
      (omega arith)

  pub untype_fits : (m : Untyping) (at : UntypingAt) (found : ℕ) → UntypingFits own.layout (record m { at = at })
      → length a.counts ≡ length (untyping_dues at)
      → TookFits own (2 + length a.counts + untyping_left own.layout.cores at) a (landed a (took_untyping_at own.layout m at found))
  untype_fits m Load found fits waits = met (frame_of_word found) refl
    where
      left : ℕ
      left = 2 + length a.counts + (67 + 5 * own.layout.cores)

      marks : (v : FrameWord) → frame_of_word found ≡ Some v
          → TookFits own left a (landed a (Goes (Act (untype_act (record m { at = Mark found v })))))
      marks v is = landed_fits own a a refl refl facts.found facts.acquired room (66 + 5 * own.layout.cores) left
          (Goes (Act (untype_act (record m { at = Mark found v }))))
          (record { frame = fits.frame; core = fits.core; at = (frames.spelling.spells found v is).0 }, omega arith, waits) (omega arith)

      by : (v : FrameWord) → frame_of_word found ≡ Some v → (k : FrameKind) (mark : Option ℕ)
          → TookFits own left a (landed a (meets_untyped m found v k mark))
      by v is k (Some d) = refused left (Refusal.Busy d) (omega arith)
      by v is Untyped None = refused left Refusal.FrameKind (omega arith)
      by v is User None = marks v is
      by v is Kernel None = marks v is

      met : (o : Option FrameWord) → frame_of_word found ≡ o → TookFits own left a (landed a (meets_untyping m found o))
      met None is = refused left Refusal.Raced (omega arith)
      met (Some v) is = by v is v.kind v.mark
  untype_fits m (Mark word v) found fits waits = by (found == word)
    where
      by : (equal : Bool) → TookFits own (2 + length a.counts + (66 + 5 * own.layout.cores)) a (landed a (sweeps_if m word v equal))
      by true =
          let few = object_few v.object in
          let some = fits.core in
          landed_fits own a a refl refl facts.found facts.acquired room
          (untyping_left own.layout.cores (sweep_at word (sweep_from m.frame v m.core))) _
          (Goes (Act (untype_act (record m { at = sweep_at word (sweep_from m.frame v m.core) })))) (
            record {
              frame = fits.frame;
              core = fits.core;
              at = record {
                fits = record { frame = fits.frame; core = fits.core; at = some_counter own.layout facts.own_fits.shape.some_core };
                kept = omega arith;
                owned = record { first = tt; second = tt };
                object = owned_none v.object;
                at = tt;
              };
            },
            omega arith,
            waits,
          ) (omega (arith, few, some))
      by false = refused _ Refusal.Raced (omega arith)
  untype_fits m (sweep_at word w) found fits waits =
      by (sweep_end own.layout w found) refl
    where
      shape : IsShape own.layout
      shape = facts.own_fits.shape

      sweeps : SweepsFrame own.layout w
      sweeps = fits.at

      next : Sweep
      next = sweep_after own.layout w found

      left : ℕ
      left = 2 + length a.counts + untyping_left own.layout.cores (sweep_at word w)

      back : TailFits own.layout (release_tail (release_of m.frame word (swept_of next) false))
          × (2 + length a.counts + tail_left (release_tail (release_of m.frame word (swept_of next) false)) < left)
      back =
          let fits = release_fits own.layout m.frame word (swept_of next) false fits.frame (ended own.layout w found shape sweeps) in
          let few = fits.1 in
          let kept = kept_after own.layout w found shape sweeps in
          let below = counters_within own.layout shape in
          let some = some_left own.layout w found shape sweeps in
          (fits.0, omega (arith, few, kept, below, some))

      done : TookFits own left a (landed a (Goes (next_work m.core 0 (untype_act (record m { at = Draw word (swept_of next) })))))
      done =
          let act : ActType = untype_act (record m { at = Draw word (swept_of next) }) in
          let kept = kept_after own.layout w found shape sweeps in
          let below = counters_within own.layout shape in
          let some = some_left own.layout w found shape sweeps in
          let few = due_few own.layout w found shape sweeps in
          let most : ℕ = 3 * length (owned_dues next.owned) + (2 + length next.kept) in
          let on = work_next own.layout (steps_later own.layout.cores a) m.core 0 act (slice_get (dues act) 0) refl fits.core
          (record { frame = fits.frame; core = fits.core; at = ended own.layout w found shape sweeps }) in
          landed_fits own a a refl refl facts.found facts.acquired room most left (Goes (next_work m.core 0 act)) (
            on.0,
            subst (λ (n : ℕ). work_left own.layout.cores (steps_later own.layout.cores a) n (next_work m.core 0 act) ≤ most) (sym waits)
                (let fewer = on.1 in omega (arith, fewer)),
            counts_next m.core 0 a.counts act (slice_get (dues act) 0) refl (sym waits) (omega arith),
          ) (omega (arith, kept, below, some, few))

      by : (end : StageEnd Swept) → sweep_end own.layout w found ≡ end → TookFits own left a (landed a (took_sweep m word next end))
      by StageEnd.Going is =
          let on = goes_on own.layout w found shape sweeps is in
          let fewer = on.1 in
          landed_fits own a a refl refl facts.found facts.acquired room (untyping_left own.layout.cores (sweep_at word next)) left
          (Goes (Act (untype_act (record m { at = sweep_at word next }))))
          (record { frame = fits.frame; core = fits.core; at = on.0 }, omega arith, waits) (omega (arith, fewer))
      by (StageEnd.Decided r) is = undone left (refusal_of r) _ back.0 back.1
      by (StageEnd.Done swept) is =
          subst (λ (x : Swept). TookFits own left a (landed a (Goes (next_work m.core 0 (untype_act (record m { at = Draw word x }))))))
          (sym (done_is (sweep_refuses own.layout w found) (sweep_next own.layout w found) (swept_of next) swept is)) done
      by (StageEnd.Refuse r) is = undone left (refusal_of r) _ back.0 back.1
  untype_fits m (Draw word w) found fits waits =
      let back = release_fits own.layout m.frame (word_of_frame (typed Untyped)) w
      true fits.frame fits.at in
      let few = back.1 in
      landed_fits own a a refl refl facts.found facts.acquired room (1 + length w.words) _
      (drawn_untyped m.frame w (drawn_stamp found)) (omega (arith, few), back.0) (omega arith)
