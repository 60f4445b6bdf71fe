-- The theorem on taken steps.
use Rattle.std.specs.Prelude.{◌≡◌}
use Rattle.core_kernel.specs.flight_laws.specs.core_invariant.specs.{ℕ, List, Call, Setting, HasCalls, Trace}
use Rattle.{core_kernel.specs.kernel_history.specs.Text.text_by_cores, core_kernel.specs.flight_laws.specs.Histories.IsHistory}

-- There is one trace that is a history of the machine and has the calls of the lists once and in order, and whose text, core by
-- core, this is.
pub record TakenSteps (setup : Setting) (lists : List (List Call)) (text : List ℕ) : Type 0 where
  pub trace : Trace
  pub history : IsHistory setup trace
  pub calls : HasCalls lists trace
  pub is_text : text ≡ text_by_cores setup trace
