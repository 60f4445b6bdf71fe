-- Calls that steps carry out.
use Rattle.std.specs.Prelude.{◌≡◌, ◌∷◌, ◌++◌}
use Rattle.kernel_history.specs.{ℕ, Some, Setting, Call, Value, State, Step, phase, after_enter, state_before}
use Rattle.kernel_history.specs.spk_nums.specs.declared.replies.Reply.TheVariants.{Ok}
use Rattle.kernel_history.specs.Trace.{Trace, Open}

-- The step e, made after t, carries its core's call out: it decides it with `ok`.
pub record CarriesOut (t : Trace) (e : Step) : Type 0 where
  pub call : Call
  pub value : Value
  pub is_open : after_enter e.enters (phase t e.core) ≡ Open call
  pub decides : e.decides ≡ Some (Ok value)

-- One of the steps u, made after t, carries out a call of a core of which this was so in the state in which the call is decided.
pub record CarriedOutBy (P : State → ℕ → Type 0) (setup : Setting) (u t : Trace) : Type 0 where
  pub more : Trace
  pub step : Step
  pub since : Trace
  pub is_part : u ≡ more ++ (step ∷ since)
  pub done : CarriesOut (since ++ t) step
  pub holds : P (state_before setup (since ++ t) step) step.core
