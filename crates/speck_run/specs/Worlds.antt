-- The theorem on the worlds after given steps.
use Rattle.std.specs.Prelude.{◌≡◌}
use Rattle.trace_run.specs.lone_kernel.specs.core_invariant.specs.{ℕ, List, Setting, Call, Item, Trace, state_after, HasCalls, Follows}
use Rattle.world_lines.specs.world_parts.specs.{sight_of, IsFinest}
use Rattle.{trace_run.specs.lone_kernel.specs.flight.specs.Made.ready_after}
use Rattle.{trace_run.specs.lone_kernel.specs.flight_laws.specs.Histories.IsHistory, world_lines.specs.Lines.worlds_text}

-- There is one trace that is a history of the machine, has the calls of the lists once and in order, follows the order, and of whose final
-- state the text tells the worlds: those of the finest partition of the frames into worlds that are apart.
pub record GivenWorlds (setup : Setting) (lists : List (List Call)) (items : List Item) (text : List ℕ) : Type 0 where
  pub trace : Trace
  pub history : IsHistory setup trace
  pub calls : HasCalls lists trace
  pub order : Follows (ready_after setup) lists items trace
  pub world : ℕ → ℕ
  pub finest : IsFinest (state_after setup trace) world
  pub is_text : text ≡ worlds_text (sight_of (state_after setup trace)) world
