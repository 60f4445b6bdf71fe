-- The theorem on given steps.
use Rattle.std.specs.Prelude.{◌≡◌}
use Rattle.flight_laws.specs.core_invariant.specs.{ℕ, List, Call, Item, Setting, Trace, HasCalls, Follows}
use Rattle.{boot_words.specs.kernel_history.specs.Text.text_of, flight_laws.specs.flight.specs.Made.ready_after}
use Rattle.{flight_laws.specs.Histories.IsHistory}

-- There is one trace that is a history of the machine, has the calls of the lists once and in order, follows the order, and whose
-- text this is.
pub record GivenSteps (setup : Setting) (lists : List (List Call)) (items : List Item) (text : List ℕ) : Type 0 where
  pub trace : Trace
  pub history : IsHistory setup trace
  pub calls : HasCalls lists trace
  pub order : Follows (ready_after setup) lists items trace
  pub is_text : text ≡ text_of setup trace
