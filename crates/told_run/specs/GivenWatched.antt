-- The theorem on given steps that are watched.
use Rattle.std.specs.Prelude.{◌≡◌}
use Rattle.lone_kernel.specs.core_invariant.specs.{ℕ, List, [], Setting, IsSetting, Call, Item, Trace, Out, phase, HasCalls, Follows}
use Rattle.{lone_kernel.specs.flight.specs.Made.ready_after, lone_kernel.specs.flight_laws.specs.Histories.IsHistory}

-- There is one trace that is a history of the machine, has the calls of the lists once and in order, follows the order, and which the
-- watcher has seen from its first step on; and at its end each core is between calls.
pub record GivenWatched (W : Type 0) (Seen : Setting → W → Trace → W → Type 0) (setup : Setting) (lists : List (List Call))
    (items : List Item) (first last : W) : Type 0 where
  pub trace : Trace
  pub setting : IsSetting setup
  pub history : IsHistory setup trace
  pub calls : HasCalls lists trace
  pub order : Follows (ready_after setup) lists items trace
  pub seen : Seen setup first trace last
  pub out : (c : ℕ) → phase trace c ≡ Out

-- So it is of a watcher that has seen nothing before.
abbrev pub WatchedFrom : {W : Type 0} → (Setting → W → Trace → W → Type 0) → Setting → List (List Call) → List Item → W → W → Type 0
WatchedFrom {W} Seen setup lists items first last =
    Seen setup first [] first → GivenWatched W Seen setup lists items first last
