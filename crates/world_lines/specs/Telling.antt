-- A text that goes on by the worlds of a state.
use Rattle.std.specs.Prelude.{◌≡◌, ◌++◌}
use Rattle.table_lines.specs.kernel_history.specs.{ℕ, List, Setting, State, Event, after}
use Rattle.world_parts.specs.{sight_of, IsLast, IsFinest}
use Rattle.{world_parts.specs.machine_image.specs.Views.ImageOf, world_lines.specs.Lines.worlds_text}

-- The text goes on by the lines of the finest partition of the state's frames into worlds that are apart.
pub record TellsIn (s : State) (old new : List ℕ) : Type 0 where
  pub world : ℕ → ℕ
  pub finest : IsFinest s world
  pub is_text : new ≡ old ++ worlds_text (sight_of s) world

-- It does so by the final state of which this is the image.
abbrev pub TellsWorlds : ImageOf → List ℕ → List ℕ → Type 0
TellsWorlds m old new = (setting : Setting) (events : List Event) → IsLast setting events m → TellsIn (after setting events) old new
