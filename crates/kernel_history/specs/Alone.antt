-- Calls that are made alone: no other core is in a call from the entry to the decision.
use Rattle.std.specs.Prelude.{◌≡◌, ◌≢◌, ◌∷◌}
use Rattle.kernel_rules.specs.{ℕ, [], Option, Some, None, Setting, Call, Reply, alone}
use Rattle.kernel_history.specs.Trace.{Step, Trace, Phase, Out, Open, Decided, phase, after_enter, state_before}

-- What is said, unless the step enters a call.
abbrev pub UnlessEnters : Option Call → Type 0 → Type 0
UnlessEnters None Said = Said
UnlessEnters (Some call) Said = Unit {0}

-- Since core c entered its call, it alone has stepped.
abbrev pub IsUndisturbed : Trace → ℕ → Type 0
IsUndisturbed [] c = Unit {0}
IsUndisturbed (e ∷ t) c = (e.core ≡ c) × UnlessEnters e.enters (IsUndisturbed t c)

-- Up to the step e no other core has been in a call during e's: none is in one, and none has stepped since e's call was entered.
pub record IsAlone (t : Trace) (e : Step) : Type 0 where
  pub others_out : (d : ℕ) → d ≢ e.core → phase t d ≡ Out
  pub undisturbed : UnlessEnters e.enters (IsUndisturbed t e.core)

-- The reply that e decides, in this phase, is that of the sequential kernel: the first cause in order, or else `ok`.
abbrev pub IsFirst : Setting → Trace → Step → Option Reply → Phase → Type 0
IsFirst setup t e None p = Unit {0}
IsFirst setup t e (Some r) Out = Unit {0}
IsFirst setup t e (Some r) (Open call) = r ≡ alone (state_before setup t e) e.core call
IsFirst setup t e (Some r) (Decided call q) = Unit {0}

-- A call that is decided alone is decided as in the sequential kernel.
abbrev pub AnswersAlone : Setting → Trace → Step → Type 0
AnswersAlone setup t e = IsAlone t e → IsFirst setup t e e.decides (after_enter e.enters (phase t e.core))

-- Each call of the trace that is decided alone is decided as in the sequential kernel.
abbrev pub KeepsFirst : Setting → Trace → Type 0
KeepsFirst setup [] = Unit {0}
KeepsFirst setup (e ∷ t) = KeepsFirst setup t × AnswersAlone setup t e
