-- What holds at each moment of a trace: after each of its beginnings, at each of its steps, and between two of its moments.
use Rattle.std.specs.Prelude.{◌≡◌, ◌∷◌, ◌++◌}
use Rattle.kernel_history.specs.{Step}
use Rattle.kernel_history.specs.Trace.{Trace}

-- This holds after each beginning v of the trace; so of the whole trace, where no step comes after v.
abbrev pub AtEachMoment : (Trace → Type 0) → Trace → Type 0
AtEachMoment Holds t = (u v : Trace) → t ≡ u ++ v → Holds v

-- This holds of each step e of the trace, made after v.
abbrev pub AtEachStep : (Trace → Step → Type 0) → Trace → Type 0
AtEachStep Holds t = (u : Trace) (e : Step) (v : Trace) → t ≡ u ++ e ∷ v → Holds v e

-- This holds of each stretch u of the trace, made after v.
abbrev pub OfEachStretch : (Trace → Trace → Type 0) → Trace → Type 0
OfEachStretch Holds t = (w u v : Trace) → t ≡ w ++ (u ++ v) → Holds u v
