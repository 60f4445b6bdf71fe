-- Traces whose calls keep within the most steps of their kinds.
use Rattle.std.specs.Prelude.{◌≡◌, ◌≤◌, ◌∷◌}
use Rattle.kernel_rules.specs.{ℕ, [], Option, Some, None, bound_of, Call}
use Rattle.kernel_history.specs.Trace.{Step, Trace, Phase, Out, Open, Decided, phase, after_enter, steps_in_call}

-- The call in which a core is, if it is in one.
abbrev pub call_in : Phase → Option Call
call_in Out = None
call_in (Open call) = Some call
call_in (Decided call r) = Some call

-- With the step e its call has made no more steps than its bound on n cores, the steps of entry and exit counted.
pub record IsWithin (n : ℕ) (t : Trace) (e : Step) : Type 0 where
  pub call : Call
  pub is_of : call_in (after_enter e.enters (phase t e.core)) ≡ Some call
  pub steps : steps_in_call (e ∷ t) e.core ≤ bound_of call n

-- Each call of the trace keeps within its bound on n cores.
abbrev pub KeepsBounds : ℕ → Trace → Type 0
KeepsBounds n [] = Unit {0}
KeepsBounds n (e ∷ t) = KeepsBounds n t × IsWithin n t e
