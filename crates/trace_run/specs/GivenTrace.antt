-- The theorem on the text of given steps.
use Rattle.std.specs.Prelude.{◌≡◌}
use Rattle.told_run.specs.lone_kernel.specs.core_invariant.specs.{ℕ, List, [], Setting, Call, Item, Trace, HasCalls, Follows}
use Rattle.{trace_lines.specs.told, trace_lines.specs.trace_text, told_run.specs.lone_kernel.specs.flight.specs.Made.ready_after}
use Rattle.{told_run.specs.lone_kernel.specs.flight_laws.specs.Histories.IsHistory}
use Rattle.{trace_lines.specs.script_printer.specs.Printing.setup_lines}

-- There is one trace that is a history of the machine, has the calls of the lists once and in order, follows the order, and whose text
-- this is, after the head of a script of this version; and no step of it is left untold.
pub record GivenTrace (version : ℕ) (setup : Setting) (lists : List (List Call)) (items : List Item) (text : List ℕ) : Type 0 where
  pub trace : Trace
  pub history : IsHistory setup trace
  pub calls : HasCalls lists trace
  pub order : Follows (ready_after setup) lists items trace
  pub is_text : text ≡ trace_text version setup trace
  pub all_told : (told (setup_lines version setup) trace).steps ≡ []
