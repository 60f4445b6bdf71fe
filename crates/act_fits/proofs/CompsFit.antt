-- Where the steps by which a component is made lead to fits its machine, and leaves fewer steps.
use Rattle.act_fits.proofs.Common.{◌≡◌, ℕ, ◌+◌, ◌-◌, ◌<◌, ◌≤◌, ◌==◌, nat_lt, Bool, true, false, if◌then◌else◌, length, Option, Some, None}
use Rattle.act_fits.proofs.Common.{IfSome, refl, sym, subst, arith, slice_get, ltb-true, FrameKind, Obj, StageEnd, frame_of_word, FrameWord}
use Rattle.act_fits.proofs.Common.{live_of_word, LiveWord, QuietFits, quiet_scan, quiet_after, quiet_end, Quiet, refusal_of, IsUnpaged}
use Rattle.act_fits.proofs.Common.{ScanFits, left_of_scan, refuse, comp_dues, dues, next_work, CompAt, CompMaking, Own, Refusal, ActType}
use Rattle.act_fits.proofs.Common.{comp_act as MakeComp, Tail, Act, Goes, Refuses, ActiveCall, landed, tail_left, TailFits, steps_later}
use Rattle.call_stages.specs.act_states.specs.{CompMakingFits, CompAtFits, comp_undo, comp_goes, comp_refuses, comp_meets}
use Rattle.call_stages.specs.act_states.specs.{comp_meets_object, comp_meets_blank, number_met, number_shown, takes_number, scans_number}
use Rattle.call_stages.specs.act_states.specs.{number_scanned, closes_number, comp_published, comp_marks, took_comp_at}
use Rattle.call_stages.specs.act_states.specs.declared.comps.CompAt.TheVariants.{Load, Mark, LoadLive, Scan, Close, Store, Fill}
use Rattle.call_stages.specs.act_states.specs.declared.work.Tail.TheVariants.{Unmark, StoreLive}
use Rattle.act_fits.proofs.{StepsFit.ScanMay, StepsFit.scan_may, DuesFit.work_next, DuesFit.counts_next, LandsFit.TookFits, LandsFit.Facts}
use Rattle.act_fits.proofs.{LandsFit.landed_fits, ScansFit.scan_goes, ScansFit.scan_left, ScansFit.scan_unpaged, ScansFit.still_unpaged}
use Rattle.{act_fits.proofs.Common.work_left, call_stages.specs.spk_nums.specs.declared.kinds.Obj.TheVariants.Blank}
use Rattle.{call_stages.specs.act_states.specs.Comps.comp_left, call_stages.specs.act_states.specs.declared.comps.LastEpoch.LastEpoch}

-- What a refused call has still to store fits, and is no more than was to come.
pub comp_undone : (own : Own) (m : CompMaking) (at : CompAt) → CompMakingFits own.layout m
    → TailFits own.layout (comp_undo m at) × (tail_left (comp_undo m at) ≤ comp_left m.cores at)
comp_undone own m Load fits = (tt, omega arith)
comp_undone own m (Mark word) fits = (tt, omega arith)
comp_undone own m (Store word last entry) fits = ((fits.number, fits.frame), omega arith)
comp_undone own m (Fill word last) fits = ((fits.number, fits.frame), omega arith)
comp_undone own m _ fits = (fits.frame, omega arith)

-- A making that stands elsewhere fits where that does.
stands_at : (own : Own) (m : CompMaking) (at next : CompAt) → CompMakingFits own.layout (record m { at = at })
    → CompAtFits own.layout next → CompMakingFits own.layout (record m { at = next })
stands_at own m at next fits there = record {
  frame = fits.frame;
  table = fits.table;
  pages = fits.pages;
  number = fits.number;
  core = fits.core;
  cores = fits.cores;
  few = fits.few;
  epochs = fits.epochs;
  fill = fits.fill;
  at = there;
}

module _ (own : Own) (a : ActiveCall) (facts : Facts own a) (room : own.made < own.limit) where
  refused : (left : ℕ) (r : Refusal) → 2 + length a.counts < left → TookFits own left a (landed a (refuse r))
  refused left r some =
      landed_fits own a a refl refl facts.found facts.acquired room 0 left (refuse r) (omega arith, tt) (omega arith)

  undone : (left : ℕ) (r : Refusal) (tail : Tail) → TailFits own.layout tail → 2 + length a.counts + tail_left tail < left
      → TookFits own left a (landed a (Refuses r tail))
  undone left r tail fits some =
      landed_fits own a a refl refl facts.found facts.acquired room (tail_left tail) left (Refuses r tail) (omega arith, fits)
      (omega arith)

  module _ (m : CompMaking) (at : CompAt) (fits : CompMakingFits own.layout (record m { at = at })) where
    goes : (next : CompAt) → CompAtFits own.layout next → length a.counts ≡ length (comp_dues m next)
        → comp_left m.cores next < comp_left m.cores at
        → TookFits own (2 + length a.counts + comp_left m.cores at) a (landed a (comp_goes m next))
    goes next there waits fewer =
        landed_fits own a a refl refl facts.found facts.acquired room (comp_left m.cores next) _
        (Goes (Act (MakeComp (record m { at = next })))) (stands_at own m at next fits there, omega arith, waits) (omega (arith, fewer))

    gives : (word : ℕ) (r : Refusal) → 1 < comp_left m.cores at
        → TookFits own (2 + length a.counts + comp_left m.cores at) a (landed a (comp_refuses m word r))
    gives word r some = undone _ r (Unmark m.frame word) fits.frame (omega (arith, some))

    takes : (word : ℕ) (last : LastEpoch) → length a.counts ≡ 3 → 7 < comp_left m.cores at
        → TookFits own (2 + length a.counts + comp_left m.cores at) a (landed a (takes_number m word last))
    takes word last waits some = by (nat_lt last.epoch m.epochs) refl
      where
        by : (b : Bool) → nat_lt last.epoch m.epochs ≡ b → TookFits own (2 + length a.counts + comp_left m.cores at) a
            (landed a (if b then comp_goes m (Close word last) else comp_refuses m word Refusal.EpochsSpent))
        by true is =
            let low = ltb-true last.epoch m.epochs is in
            let most = fits.epochs in
            goes (Close word last) (omega (arith, low, most)) waits some
        by false is = gives word Refusal.EpochsSpent (omega (arith, some))

  load_fits : (m : CompMaking) (found : ℕ) → CompMakingFits own.layout (record m { at = Load }) → length a.counts ≡ 0
      → TookFits own (2 + length a.counts + (18 + m.cores)) a (landed a (comp_meets m found (frame_of_word found)))
  load_fits m found fits waits = met (frame_of_word found)
    where
      blank : (o : Obj) → TookFits own (2 + length a.counts + (18 + m.cores)) a (landed a (comp_meets_object m found o))
      blank Blank = goes m Load fits (Mark found) tt waits (omega arith)
      blank o = refused _ Refusal.FrameKind (omega arith)

      by : (k : FrameKind) (o : Obj) (mark : Option ℕ) → TookFits own (2 + length a.counts + (18 + m.cores)) a
          (landed a (comp_meets_blank m found k o mark))
      by k o (Some d) = refused _ (Refusal.Busy d) (omega arith)
      by FrameKind.Untyped o None = refused _ Refusal.FrameKind (omega arith)
      by FrameKind.User o None = refused _ Refusal.FrameKind (omega arith)
      by FrameKind.Kernel o None = blank o

      met : (o : Option FrameWord) → TookFits own (2 + length a.counts + (18 + m.cores)) a (landed a (comp_meets m found o))
      met None = refused _ Refusal.Raced (omega arith)
      met (Some v) = by v.kind v.object v.mark

  mark_fits : (m : CompMaking) (word : ℕ) (equal : Bool) → CompMakingFits own.layout (record m { at = Mark word })
      → length a.counts ≡ 0 → TookFits own (2 + length a.counts + (17 + m.cores)) a (landed a (comp_marks m word equal))
  mark_fits m word true fits waits =
      let act : ActType = MakeComp (record m { at = LoadLive word }) in
      let most : ℕ = 16 + m.cores in
      let next = work_next own.layout (steps_later own.layout.cores a) m.core 0 act (slice_get (dues act) 0) refl fits.core
      (stands_at own m (Mark word) (LoadLive word) fits tt) in
      landed_fits own a a refl refl facts.found facts.acquired room most _ (Goes (next_work m.core 0 act)) (
        next.0,
        subst (λ (n : ℕ). work_left own.layout.cores (steps_later own.layout.cores a) n (next_work m.core 0 act) ≤ most) (sym waits)
            (let fewer = next.1 in omega (arith, fewer)),
        counts_next m.core 0 a.counts act (slice_get (dues act) 0) refl (sym waits) (omega arith),
      ) (omega arith)
  mark_fits m word false fits waits = refused _ Refusal.Raced (omega arith)

  live_fits : (m : CompMaking) (word found : ℕ) → CompMakingFits own.layout (record m { at = LoadLive word }) → length a.counts ≡ 3
      → TookFits own (2 + length a.counts + (7 + m.cores)) a (landed a (number_met m word found (live_of_word found)))
  live_fits m word found fits waits = by (live_of_word found)
    where
      some : 0 < m.cores
      some = let more = fits.core in let same = fits.cores in omega (arith, more, same)

      scan : (last : LastEpoch) (o : Option Quiet) → ScanMay own.layout false o → IfSome o IsUnpaged
          → TookFits own (2 + length a.counts + (7 + m.cores)) a (landed a (scans_number m word last o))
      scan last None h alone = takes m (LoadLive word) fits word last waits (omega (arith, some))
      scan last (Some q) h alone =
          let same = fits.cores in
          let few : left_of_scan m.cores q + 1 ≤ m.cores = subst (λ (n : ℕ). left_of_scan n q + 1 ≤ n) (sym fits.cores) h.2 in
          goes m (LoadLive word) fits (Scan word last q) (h.0, h.1, alone) waits (omega (arith, few))

      shown : (v : LiveWord) → TookFits own (2 + length a.counts + (7 + m.cores)) a (landed a (number_shown m word found v))
      shown LiveWord.Free = takes m (LoadLive word) fits word (record { word = found; epoch = 0 }) waits (omega (arith, some))
      shown (LiveWord.Live epoch f) = gives m (LoadLive word) fits word Refusal.Occupied (omega arith)
      shown (LiveWord.Closing epoch by) = gives m (LoadLive word) fits word (Refusal.Busy by) (omega arith)
      shown (LiveWord.Dead epoch stamp) =
          scan (record { word = found; epoch = epoch }) (quiet_scan stamp m.core m.cores false)
          (subst (λ (n : ℕ). ScanMay own.layout false (quiet_scan stamp m.core n false)) (sym fits.cores)
          (scan_may own.layout stamp m.core false fits.core)) (scan_unpaged stamp m.core m.cores)

      by : (o : Option LiveWord) → TookFits own (2 + length a.counts + (7 + m.cores)) a (landed a (number_met m word found o))
      by None = gives m (LoadLive word) fits word Refusal.Raced (omega arith)
      by (Some v) = shown v

  number_fits : (m : CompMaking) (word : ℕ) (last : LastEpoch) (q : Quiet) (found : ℕ)
      → CompMakingFits own.layout (record m { at = Scan word last q }) → length a.counts ≡ 3
      → TookFits own (2 + length a.counts + (left_of_scan m.cores q + 7)) a
      (landed a (number_scanned m word last (quiet_after m.cores q found) (quiet_end m.cores q found)))
  number_fits m word last q found fits waits =
      by (quiet_after m.cores q found) (quiet_end m.cores q found) (still_unpaged m.cores q found fits.at.2)
      (subst (λ (n : ℕ). quiet_end n q found ≡ StageEnd.Going
      → QuietFits own.layout (quiet_after n q found) × ScanFits own.layout (quiet_after n q found)
      × (left_of_scan n (quiet_after n q found) < left_of_scan n q)) (sym fits.cores)
      (λ going. scan_goes own.layout q found fits.at.0 fits.at.1 going))
    where
      some : 1 ≤ left_of_scan m.cores q
      some = subst (λ (n : ℕ). 1 ≤ left_of_scan n q) (sym fits.cores) (scan_left own.layout q fits.at.0 fits.at.1)

      by : (next : Quiet) (end : StageEnd (Unit {0})) → (end ≡ StageEnd.Going → IsUnpaged next)
          → (end ≡ StageEnd.Going → QuietFits own.layout next × ScanFits own.layout next
          × (left_of_scan m.cores next < left_of_scan m.cores q))
          → TookFits own (2 + length a.counts + (left_of_scan m.cores q + 7)) a (landed a (number_scanned m word last next end))
      by next StageEnd.Going alone on =
          let h = on refl in
          let fewer = h.2 in
          goes m (Scan word last q) fits (Scan word last next) (h.0, h.1, alone refl) waits (omega (arith, fewer))
      by next (StageEnd.Decided r) alone on = gives m (Scan word last q) fits word (refusal_of r) (omega (arith, some))
      by next (StageEnd.Done x) alone on = takes m (Scan word last q) fits word last waits (omega (arith, some))
      by next (StageEnd.Refuse r) alone on = gives m (Scan word last q) fits word (refusal_of r) (omega (arith, some))

  pub comp_fits : (m : CompMaking) (at : CompAt) (found : ℕ) → CompMakingFits own.layout (record m { at = at })
      → length a.counts ≡ length (comp_dues m at)
      → TookFits own (2 + length a.counts + comp_left m.cores at) a (landed a (took_comp_at m at found))
  comp_fits m Load found fits waits = load_fits m found fits waits
  comp_fits m (Mark word) found fits waits = mark_fits m word (found == word) fits waits
  comp_fits m (LoadLive word) found fits waits = live_fits m word found fits waits
  comp_fits m (Scan word last q) found fits waits = number_fits m word last q found fits waits
  comp_fits m (Close word last) found fits waits = by (found == last.word)
    where
      by : (equal : Bool) → TookFits own (2 + length a.counts + 7) a (landed a (closes_number m word last equal))
      by true = goes m (Close word last) fits (Store word last 0) (fits.at, omega arith) waits (omega arith)
      by false = gives m (Close word last) fits word Refusal.Raced (omega arith)
  comp_fits m (Store word last entry) found fits waits = by (nat_lt entry 2) refl
    where
      by : (more : Bool) → nat_lt entry 2 ≡ more → TookFits own (2 + length a.counts + (2 - entry + 4)) a
          (landed a (comp_goes m (if more then Store word last (entry + 1) else Fill word last)))
      by true is =
          let low = ltb-true entry 2 is in
          goes m (Store word last entry) fits (Store word last (entry + 1)) (fits.at.0, omega (arith, low)) waits (omega (arith, low))
      by false is = goes m (Store word last entry) fits (Fill word last) fits.at.0 waits (omega arith)
  comp_fits m (Fill word last) found fits waits = by (found == m.fill.word)
    where
      by : (equal : Bool) → TookFits own (2 + length a.counts + 3) a (landed a (comp_published m word last equal))
      by true = landed_fits own a a refl refl facts.found facts.acquired room 2 _ (comp_published m word last true)
          (omega arith, (fits.number, fits.frame)) (omega arith)
      by false = undone _ Refusal.Raced (StoreLive m.number last.word m.frame word) (fits.number, fits.frame) (omega arith)
