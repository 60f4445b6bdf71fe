-- A core that is idle stays so while others step.
use Rattle.boot_words.specs.kernel_history.proofs.{◌≡◌, ◌≢◌, inl, inr, ℕ, zero, suc, ◌<◌, ◌++◌, List, [], ◌∷◌, sym, ◌∙◌, subst, arith, Call}
use Rattle.boot_words.specs.kernel_history.proofs.{IsIdle, FollowsCores, phase-other, calls_of-other}
use Rattle.std.proofs.lemmas.Bool.{cases_eq}
use Rattle.boot_words.specs.kernel_history.specs.{Trace.Trace, Order.AreOf}

pub idle_stays : (lists : List (List Call)) (s t : Trace) (c d : ℕ) → AreOf d s → c ≢ d → IsIdle lists t c → IsIdle lists (s ++ t) c
idle_stays lists [] t c d own apart idle = idle
idle_stays lists (e ∷ s) t c d own apart idle =
    let rest = idle_stays lists s t c d (λ k x h. own (suc k) x (omega arith)) apart idle in
    let at : e.core ≡ d = own 0 e (omega arith) in
    let other : c ≢ e.core = omega arith in
    record { out = phase-other c e (s ++ t) other ∙ rest.out; finished = calls_of-other c e (s ++ t) other ∙ rest.finished }

pub all_idle : (lists : List (List Call)) (n : ℕ) (t u : Trace) → FollowsCores lists n t u → (c : ℕ) → c < n → IsIdle lists u c
all_idle lists zero t u follows c h = absurd (omega arith)
all_idle lists (suc n) t u (m, before, out) c h = elim (cases_eq c n) [
  | inl last ↦ subst (λ (k : ℕ). IsIdle lists u k) (sym last) out.idle
  | inr earlier ↦ subst (λ x. IsIdle lists x c) (sym out.adds)
      (idle_stays lists out.steps m c n out.own earlier (all_idle lists n t m before c (omega arith)))
]
