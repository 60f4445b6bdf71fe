-- Whether two names of words are one.
use Rattle.std.proofs.Common.{◌≡◌, ◌≢◌, ◌⊎◌, inl, inr, true, false, Bool, sym, ◌∙◌, ap, refl}
use Rattle.kernel_history.specs.{Word, same_word}
use Rattle.word_map.proofs.WordLemmas.{same_same, same_word-true}

pub same_word-same : (w v : Word) → w ≡ v → same_word w v ≡ true
same_word-same w v is = ap (same_word w) (sym is) ∙ same_same w

pub same_word-other : (w v : Word) → w ≢ v → same_word w v ≡ false
same_word-other w v apart = by_cases (same_word w v) refl where
  by_cases : (b : Bool) → same_word w v ≡ b → b ≡ false
  by_cases true is = absurd (apart (same_word-true w v is))
  by_cases false is = refl

-- two names are one or they are not
pub cases_word : (w v : Word) → (w ≡ v) ⊎ (w ≢ v)
cases_word w v = by_cases (same_word w v) refl where
  by_cases : (b : Bool) → same_word w v ≡ b → (w ≡ v) ⊎ (w ≢ v)
  by_cases true is = inl (same_word-true w v is)
  by_cases false is = inr (λ h. let same = same_word-same w v h in absurd (cc))
