-- A core is inside exactly where it is in a call.
use Rattle.kernel_history.specs.{◌≡◌, ◌≢◌, ℕ, Bool, true, false, cond, [], ◌∷◌, Option, Some, None, refl, is_some, Call, Reply, Setting}
use Rattle.kernel_history.specs.{State, Step, Phase, Out, Decided, phase, after_enter, after_decide, after_return, state_after}
use Rattle.kernel_history.specs.{state_entered, state_decided, state_returned, is_in}
use Rattle.kernel_rules.proofs.{inl, inr, sym, ◌∙◌, ap, put_same, put_other, decided_stays}
use Rattle.{std.proofs.lemmas.Bool.cases_eq, kernel_history.specs.Trace.Trace, kernel_history.specs.Trace.Open}
use Rattle.{kernel_history.proofs.Steps.phase-own, kernel_history.proofs.Steps.phase-other}

-- A decision leaves each core in a call where it was.
pub decided-inside : (o : Option Reply) (p : Phase) (s : State) (c d : ℕ) → ((state_decided o p s c).core d).inside ≡ (s.core d).inside
decided-inside None p s c d = refl
decided-inside (Some r) Out s c d = refl
decided-inside (Some r) (Open call) s c d = (decided_stays s c call r).inside d
decided-inside (Some r) (Decided call q) s c d = refl

-- What an invocation and a response make of it.
abbrev pub inside_after : Option Call → Option Reply → Bool → Bool
inside_after o None b = cond (is_some o) true b
inside_after o (Some r) b = false

entered-own : (o : Option Call) (s : State) (c d : ℕ) → d ≡ c
    → ((state_entered o s c).core d).inside ≡ cond (is_some o) true (s.core d).inside
entered-own None s c d own = refl
entered-own (Some call) s c d own = ap (λ k. k.inside) (put_same s.core c _ d own)

pub entered-inside : (o : Option Call) (s : State) (c d : ℕ) → d ≢ c → ((state_entered o s c).core d).inside ≡ (s.core d).inside
entered-inside None s c d other = refl
entered-inside (Some call) s c d other = ap (λ k. k.inside) (put_other s.core c _ d other)

returned-own : (o : Option Call) (q : Option Reply) (s : State) (c d : ℕ) (b : Bool) → d ≡ c → (s.core d).inside ≡ cond (is_some o) true b
    → ((state_returned q s c).core d).inside ≡ inside_after o q b
returned-own o None s c d b own is = is
returned-own o (Some r) s c d b own is = ap (λ k. k.inside) (put_same s.core c _ d own)

pub returned-inside : (q : Option Reply) (s : State) (c d : ℕ) → d ≢ c → ((state_returned q s c).core d).inside ≡ (s.core d).inside
returned-inside None s c d other = refl
returned-inside (Some r) s c d other = ap (λ k. k.inside) (put_other s.core c _ d other)

module _ (setup : Setting) (e : Step) (t : Trace) where
  pub inside-other : (c : ℕ) → c ≢ e.core → ((state_after setup (e ∷ t)).core c).inside ≡ ((state_after setup t).core c).inside
  inside-other c other =
      returned-inside e.returns _ e.core c other
      ∙ decided-inside e.decides (after_enter e.enters (phase t e.core)) _ e.core c
      ∙ entered-inside e.enters (state_after setup t) e.core c other

  pub inside-own : (c : ℕ) → c ≡ e.core
      → ((state_after setup (e ∷ t)).core c).inside ≡ inside_after e.enters e.returns ((state_after setup t).core c).inside
  inside-own c own =
      returned-own e.enters e.returns _ e.core c ((state_after setup t).core c).inside own
      (decided-inside e.decides (after_enter e.enters (phase t e.core)) _ e.core c
      ∙ entered-own e.enters (state_after setup t) e.core c own)

in-decided : (d : Option Reply) (p : Phase) → is_in (after_decide d p) ≡ is_in p
in-decided None p = refl
in-decided (Some r) Out = refl
in-decided (Some r) (Open call) = refl
in-decided (Some r) (Decided call q) = refl

in-after : (o : Option Call) (d q : Option Reply) (p : Phase)
    → is_in (after_return q (after_decide d (after_enter o p))) ≡ inside_after o q (is_in p)
in-after None d None p = in-decided d p
in-after (Some call) d None p = in-decided d (Open call)
in-after o d (Some r) p = refl

pub inside_is : (setup : Setting) (t : Trace) (c : ℕ) → ((state_after setup t).core c).inside ≡ is_in (phase t c)
inside_is setup [] c = refl
inside_is setup (e ∷ t) c = elim (cases_eq c e.core) [
  | inl own ↦
      inside-own setup e t c own ∙ ap (inside_after e.enters e.returns) (inside_is setup t c)
      ∙ sym (ap is_in (phase-own c e t own) ∙ in-after e.enters e.decides e.returns (phase t c))
  | inr other ↦ inside-other setup e t c other ∙ inside_is setup t c ∙ sym (ap is_in (phase-other c e t other))
]
