-- A step that may follow leaves its core between calls exactly where it returns.
use Rattle.kernel_history.specs.{◌≡◌, ◌≢◌, ℕ, ◌∷◌, Option, Some, None, refl, IsSome, Reply, Setting, Step, Phase, Out, Decided, phase}
use Rattle.kernel_history.specs.{after_enter, after_decide, after_return, MayFollow}
use Rattle.std.proofs.Common.{sym, ◌∙◌, ap}
use Rattle.{kernel_history.specs.Trace.Trace, kernel_history.specs.Trace.Open, kernel_history.proofs.Steps.phase-own}

stays_in : (d : Option Reply) (p : Phase) → p ≢ Out → after_decide d p ≢ Out
stays_in None p h = h
stays_in (Some r) Out h = λ e. h refl
stays_in (Some r) (Open call) h = λ e. cc
stays_in (Some r) (Decided call q) h = λ e. cc

module _ (setup : Setting) (t : Trace) (e : Step) (c : ℕ) (own : e.core ≡ c) (follows : MayFollow setup t e) where
  pub open_after : e.returns ≡ None → phase (e ∷ t) c ≢ Out
  open_after none out =
      stays_in e.decides (after_enter e.enters (phase t e.core)) follows.in_call
      (sym (phase-own e.core e t refl ∙ ap (λ r. after_return r (after_decide e.decides (after_enter e.enters (phase t e.core)))) none)
      ∙ ap (phase (e ∷ t)) own ∙ out)

  pub returns_if_out : phase (e ∷ t) c ≡ Out → IsSome e.returns
  returns_if_out out = by_cases e.returns refl where
    by_cases : (o : Option Reply) → e.returns ≡ o → IsSome o
    by_cases None is = absurd (open_after is out)
    by_cases (Some r) is = refl

pub none_if_in : (t : Trace) (e : Step) (c : ℕ) → e.core ≡ c → phase (e ∷ t) c ≢ Out → e.returns ≡ None
none_if_in t e c own inside = by_cases e.returns refl where
  by_cases : (o : Option Reply) → e.returns ≡ o → o ≡ None
  by_cases None is = refl
  by_cases (Some r) is =
      absurd (inside (phase-own c e t (sym own) ∙ ap (λ o. after_return o (after_decide e.decides (after_enter e.enters (phase t c)))) is))
