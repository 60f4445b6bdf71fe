-- The theorem on the picture of given steps.
use Rattle.std.specs.Prelude.{◌≡◌}
use Rattle.told_run.specs.lone_kernel.specs.core_invariant.specs.{ℕ, List, Setting, Call, Item, Trace, HasCalls, Follows}
use Rattle.{told_run.specs.lone_kernel.specs.flight.specs.Made.ready_after}
use Rattle.{told_run.specs.lone_kernel.specs.flight_laws.specs.Histories.IsHistory, page_drawing.specs.Pictures.picture}

-- There is one trace that is a history of the machine, has the calls of the lists once and in order, follows the order, and of which
-- this text is the picture of this page.
pub record GivenDrawing (page : ℕ) (setup : Setting) (lists : List (List Call)) (items : List Item) (text : List ℕ) : Type 0 where
  pub trace : Trace
  pub history : IsHistory setup trace
  pub calls : HasCalls lists trace
  pub order : Follows (ready_after setup) lists items trace
  pub is_picture : text ≡ picture page setup trace
