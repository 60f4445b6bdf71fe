-- The sum of a frame's counts stays where a step leaves what its count words stand for, and its references.
use Rattle.core_invariant.proofs.{◌≡◌, ℕ, pos, ◌∷◌, sym, ◌∙◌, ap, Setting, count_of_word, residue, CountAt, FrameOf, refs, counters}
use Rattle.core_invariant.proofs.{count_sum, stamp, Step, Trace, state_after, settled, stamp_in, newest_of, count_shown, SumIs}
use Rattle.core_invariant.specs.Holding.{Holding}
use Rattle.kept_facts.proofs.{Calm.IsCalm, Calm.IsUntimed, Calm.plain_stamp, CountSums.sum_same, CountSums.newest_same, CountSums.calm_refs}

module _ (setup : Setting) (t : Trace) (e : Step) (held held' : ℕ → Holding)
    (same : (f d : ℕ) → settled setup held' (e ∷ t) (CountAt f d) ≡ settled setup held t (CountAt f d)) where
  shown_same : (f d : ℕ) → count_shown setup held' (e ∷ t) f d ≡ count_shown setup held t f d
  shown_same f d = ap count_of_word (same f d)

  -- where the grace periods of frames stay too
  pub sums_since : ((f : ℕ) → stamp setup (e ∷ t) (FrameOf f) ≡ stamp setup t (FrameOf f))
      → (state_after setup (e ∷ t)).limits ≡ (state_after setup t).limits
      → ((f : ℕ) → refs (state_after setup (e ∷ t)) f ≡ refs (state_after setup t) f)
      → ((f : ℕ) → SumIs setup held t f) → (f : ℕ) → SumIs setup held' (e ∷ t) f
  sums_since since limits kept sums f = record {
    sum = ap (λ l. residue (count_sum (count_shown setup held' (e ∷ t) f) (counters l.cores))) limits
        ∙ ap residue (sum_same (count_shown setup held t f) (count_shown setup held' (e ∷ t) f)
        (counters (state_after setup t).limits.cores) (shown_same f))
        ∙ (sums f).sum ∙ ap (λ (n : ℕ). residue (pos n)) (sym (kept f));
    newest = ap (λ l. newest_of (count_shown setup held' (e ∷ t) f) (counters l.cores)) limits
        ∙ newest_same (count_shown setup held t f) (count_shown setup held' (e ∷ t) f) (counters (state_after setup t).limits.cores)
        (λ d. ap stamp_in (shown_same f d))
        ∙ (sums f).newest ∙ sym (since f);
  }

  pub sums_keep : IsUntimed setup t e → (state_after setup (e ∷ t)).limits ≡ (state_after setup t).limits
      → ((f : ℕ) → refs (state_after setup (e ∷ t)) f ≡ refs (state_after setup t) f)
      → ((f : ℕ) → SumIs setup held t f) → (f : ℕ) → SumIs setup held' (e ∷ t) f
  sums_keep plain = sums_since (λ f. plain_stamp setup t e plain (FrameOf f))

pub sums_stay : (setup : Setting) (t : Trace) (e : Step) (held held' : ℕ → Holding)
    → ((f d : ℕ) → settled setup held' (e ∷ t) (CountAt f d) ≡ settled setup held t (CountAt f d))
    → IsCalm (state_after setup t) (state_after setup (e ∷ t)) e.core → IsUntimed setup t e
    → ((g i : ℕ) → (state_after setup (e ∷ t)).place g i ≡ (state_after setup t).place g i)
    → ((f : ℕ) → SumIs setup held t f) → (f : ℕ) → SumIs setup held' (e ∷ t) f
sums_stay setup t e held held' same calm plain places sums f =
    sums_keep setup t e held held' same plain calm.limits
    (calm_refs (state_after setup t) (state_after setup (e ∷ t)) e.core calm places) sums f
