-- Each word has 64 bits, after each legal trace.
use Rattle.boot_words.specs.kernel_history.proofs.{inl, inr, ℕ, ◌<◌, ◌^◌, [], ◌∷◌, sym, subst, Setting, IsSetting, Word, word_of, last_left}
use Rattle.boot_words.specs.kernel_history.proofs.{IsLegal, cases_word, last_left-here, last_left-there}
use Rattle.{boot_words.specs.kernel_history.specs.Trace.Trace, boot_words.proofs.BootRepresents.boot_small}

pub last_small : (setup : Setting) → IsSetting setup → (t : Trace) → IsLegal setup t → (w : Word) → last_left setup t w < 2 ^ 64
last_small setup lim [] legal w = boot_small setup lim w
last_small setup lim (e ∷ t) legal w = elim (cases_word w (word_of e.move)) [
  | inl here ↦ subst (λ (n : ℕ). n < 2 ^ 64) (sym (last_left-here setup w e t here)) legal.1.small
  | inr there ↦ subst (λ (n : ℕ). n < 2 ^ 64) (sym (last_left-there setup w e t there)) (last_small setup lim t legal.0 w)
]
