-- The theorem on the origins after given steps.
use Rattle.std.specs.Prelude.{◌≡◌}
use Rattle.told_run.specs.lone_kernel.specs.core_invariant.specs.{ℕ, List, Setting, Call, Item, Trace, events_of, HasCalls, Follows}
use Rattle.{told_run.specs.lone_kernel.specs.flight.specs.Made.ready_after}
use Rattle.{told_run.specs.lone_kernel.specs.flight_laws.specs.Histories.IsHistory, origin_lines.specs.Lines.origins_text}

-- There is one trace that is a history of the machine, has the calls of the lists once and in order, follows the order, and at whose end
-- the capabilities that are held have the origins that the text tells.
pub record GivenOrigins (setup : Setting) (lists : List (List Call)) (items : List Item) (text : List ℕ) : Type 0 where
  pub trace : Trace
  pub history : IsHistory setup trace
  pub calls : HasCalls lists trace
  pub order : Follows (ready_after setup) lists items trace
  pub is_text : text ≡ origins_text setup (events_of trace)
