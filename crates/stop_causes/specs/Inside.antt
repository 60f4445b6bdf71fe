-- What a machine says of how far a core is in its call.
use Rattle.std.specs.Prelude.{◌≡◌, ◌<◌, ℕ, Option, Some, None}
use Rattle.stop_causes.specs.declared.Progress.{Progress}

-- This is said of a core that is in this call, if in one: how many steps the call has made, which are fewer than its bound; and nothing
-- of a core that is between calls.
abbrev pub IsSo : Option ℕ → Option Progress → Type 0
IsSo None None = Unit {0}
IsSo None (Some within) = ⊥
IsSo (Some made) None = ⊥
IsSo (Some made) (Some within) = (made ≡ within.made) × (made < within.bound)
