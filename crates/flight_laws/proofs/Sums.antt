-- Time and references as sums over words.
use Rattle.time_laws.specs.step_ways.proofs.{◌≡◌, ℕ, suc, ◌<◌, false, IsTrue, [], ◌∷◌, Option, Some, None, refl, sym, ◌∙◌, ap, subst}
use Rattle.time_laws.specs.step_ways.proofs.{false≢true, arith, Setting, IsSetting, EntryAt, Phase, Out, Open, Trace, phase, state_after}
use Rattle.time_laws.specs.step_ways.proofs.{last_left, marked_by, Kernel, Tcap, Enter, Living, Undecided, Decided, Leave, ActiveCall}
use Rattle.time_laws.specs.step_ways.proofs.{Stage, holds_in, CallIs, KnowsAt, phase_at, Invariant, pos, ◌+ℤ◌, List, All, if◌then◌else◌}
use Rattle.time_laws.specs.step_ways.proofs.{residue, CountWord, TcapFields, counters, count_at, count_in, count_sum, count_mark, hold_mark}
use Rattle.time_laws.specs.history_laws.specs.{state_of_decision, has_cleared, TimeSums, FrozenSums}
use Rattle.time_laws.specs.flight.specs.{cores_after, IsMade}
use Rattle.time_laws.specs.kernel_history.proofs.{Decided as decided_phase, counter_all}
use Rattle.time_laws.proofs.{Time.time_kept, Time.heads_say, MarkedHeads.open_heads_say, OwedHeads.marked_heads_say}
use Rattle.time_laws.specs.history_laws.specs.Counts.{count_then, will_show, sum_then}
use Rattle.time_laws.specs.history_laws.specs.Sums.{HoldsOf, HoldsBy, HeadHolds, IsFrozenBy}
use Rattle.{time_laws.specs.thread_invariant.proofs.EntryMarks.holder_below, time_laws.specs.flight.proofs.Made.made_stands}
use Rattle.{flight_laws.proofs.CountsTold.counts_tell}

-- ---- time

module _ (setup : Setting) (setting : IsSetting setup) (t : Trace) (made : IsMade setup t) where
  -- a core between calls has marked no head
  marked_inside : (f d : ℕ) → marked_by setup t (EntryAt f 0) ≡ Some d → phase t d ≡ Out → ⊥
  marked_inside f d mark out =
      by (cores_after setup t d).active (stands.each d below).active ((stands.marks (EntryAt f 0) d).owned mark)
    where
      stands : Invariant setup (cores_after setup t) t
      stands = made_stands setup setting t made

      below : d < setup.cores
      below = holder_below setup setting (cores_after setup t) t stands d f 0 mark

      by_stage : (a : ActiveCall) (stage : Stage) → phase t d ≡ phase_at a.call stage
          → KnowsAt setup t d (cores_after setup t d).own.table a stage → ⊥
      by_stage a Enter at knows = knows
      by_stage a (Living alive) at knows = not_open (sym out ∙ at)
        where
          not_open : Out ≡ Open a.call → ⊥
          not_open h = cc
      by_stage a (Undecided work) at knows = not_open (sym out ∙ at)
        where
          not_open : Out ≡ Open a.call → ⊥
          not_open h = cc
      by_stage a (Decided r drawn tail) at knows = not_decided (sym out ∙ at)
        where
          not_decided : Out ≡ decided_phase a.call r → ⊥
          not_decided h = cc
      by_stage a (Leave r x) at knows = not_decided (sym out ∙ at)
        where
          not_decided : Out ≡ decided_phase a.call r → ⊥
          not_decided h = cc

      by : (o : Option ActiveCall) → CallIs setup t d (cores_after setup t d).own.table o → IsTrue ((holds_in o).marks (EntryAt f 0)) → ⊥
      by None is marks = false≢true marks
      by (Some a) is marks = by_stage a a.stage is.phase is.knows

  module _ (f : ℕ) (q : TcapFields) (is : (state_after setup t).frame f ≡ Kernel (Tcap q)) where
    head_holds : HeadHolds setup t f q.budget
    head_holds = by (marked_by setup t (EntryAt f 0)) refl
      where
        by_phase : (d : ℕ) → marked_by setup t (EntryAt f 0) ≡ Some d → (p : Phase) → phase t d ≡ p → HeadHolds setup t f q.budget
        by_phase d mark Out at = absurd (marked_inside f d mark at)
        by_phase d mark (Open call) at = let h = open_heads_say setup setting t made f q d call is mark at in record {
          shown = q.budget;
          version = h.version;
          says = h.says ∙ ap (λ m. Some (record { budget = q.budget; mark = m; version = h.version })) (sym mark);
          transit = subst (λ o. HoldsBy setup t o f q.budget q.budget) (sym mark)
              (subst (λ p. HoldsOf (state_of_decision setup t d) d p f q.budget q.budget) (sym at) refl);
        }
        by_phase d mark (decided_phase call r) at = let h = marked_heads_say setup setting t made f q d call r is mark at in record {
          shown = h.shown;
          version = h.shows.version;
          says = h.shows.says ∙ ap (λ m. Some (record { budget = h.shown; mark = m; version = h.shows.version })) (sym mark);
          transit = subst (λ o. HoldsBy setup t o f h.shown q.budget) (sym mark)
              (subst (λ p. HoldsOf (state_of_decision setup t d) d p f h.shown q.budget) (sym at) h.owes);
        }

        by : (o : Option ℕ) → marked_by setup t (EntryAt f 0) ≡ o → HeadHolds setup t f q.budget
        by None mark = let h = heads_say setup setting t made f q is mark in record {
          shown = q.budget;
          version = h.version;
          says = h.says ∙ ap (λ m. Some (record { budget = q.budget; mark = m; version = h.version })) (sym mark);
          transit = subst (λ o. HoldsBy setup t o f q.budget q.budget) (sym mark) refl;
        }
        by (Some d) mark = by_phase d mark (phase t d) refl

pub time_sums : (setup : Setting) → IsSetting setup → (t : Trace) → IsMade setup t → TimeSums setup t
time_sums setup setting t made = record {
  heads = λ f q is. head_holds setup setting t made f q is;
  sum = time_kept setup setting t made;
}

-- ---- references

-- a frozen count is what the word shows
shows_it : (setup : Setting) (t : Trace) (f c : ℕ) → has_cleared f (phase t c) ≡ false → (o : Option CountWord) → IsFrozenBy c o
    → will_show setup t f o ≡ count_in o
shows_it setup t f c kept None frozen = absurd frozen
shows_it setup t f c kept (Some v) frozen = ap (λ h. count_then setup t f h v.count) frozen
    ∙ ap (λ b. if b then pos 0 else v.count) kept

sums_it : (setup : Setting) (t : Trace) (f c : ℕ) → has_cleared f (phase t c) ≡ false → (ks : List ℕ)
    → All (λ k. IsFrozenBy c (count_at (last_left setup t) f k)) ks
    → sum_then setup t f ks ≡ count_sum (count_at (last_left setup t) f) ks
sums_it setup t f c kept [] frozen = refl
sums_it setup t f c kept (k ∷ ks) frozen =
    let here = shows_it setup t f c kept (count_at (last_left setup t) f k) (frozen 0 k (omega arith)) in
    let rest = sums_it setup t f c kept ks (λ i d lt. frozen (suc i) d (omega arith)) in
    λ i. here i +ℤ rest i

marks_it : (c d : ℕ) (o : Option CountWord) → IsFrozenBy c o → count_mark o ≡ Some d → d ≡ c
marks_it c d None frozen mark = absurd frozen
marks_it c d (Some v) frozen mark = same (sym mark ∙ ap hold_mark frozen)
  where
    same : Some d ≡ Some c → d ≡ c
    same h = cc

pub frozen_sums : (setup : Setting) → IsSetting setup → (t : Trace) → IsMade setup t → FrozenSums setup t
frozen_sums setup setting t made f c frozen kept = record {
  alone = λ k d below mark. marks_it c d (count_at (last_left setup t) f k)
      (counter_all (λ i. IsFrozenBy c (count_at (last_left setup t) f i)) setup.cores k below frozen) mark;
  sum = ap residue (sym (sums_it setup t f c kept (counters setup.cores) frozen)) ∙ counts_tell setup setting t made f;
}
