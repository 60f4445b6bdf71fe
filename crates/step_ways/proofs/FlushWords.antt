-- What a core's flush word shows: the flush that the core has stored, which is not later than its last.
use Rattle.kept_facts.proofs.{Core, Invariant, stamp, flush_stored, Trace, last_left, Setting, ◌≡◌, ℕ, Some, sym, ◌∙◌, ap, FlushAt}
use Rattle.kept_facts.specs.kernel_history.specs.{flush_of_word}
use Rattle.kept_facts.specs.frame_words.specs.declared.flush_word.FlushWord.{FlushWord}

module _ (setup : Setting) (cores : ℕ → Core) (t : Trace) (stands : Invariant setup cores t) (c : ℕ) (shown : FlushWord)
    (shows : flush_of_word (last_left setup t (FlushAt c)) ≡ Some shown) where
  pub flush_shown : shown.stamp ≡ flush_stored t c
  flush_shown = ap (λ k. k.stamp) (same shown (record { stamp = flush_stored t c }) (sym shows ∙ stands.words (FlushAt c)))
    where
      same : (x y : FlushWord) → Some x ≡ Some y → x ≡ y
      same x y h = cc
