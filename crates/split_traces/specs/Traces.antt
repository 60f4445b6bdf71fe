-- Split worlds in legal traces: what stays so over any stretch of steps of all cores, and what the others leave of it.
use Rattle.std.specs.Prelude.{◌≡◌, ◌∷◌, ◌++◌}
use Rattle.kernel_history.specs.{List, [], Setting, IsSetting, Event, after, IsRun, phase, after_enter, state_after}
use Rattle.kernel_history.specs.{with_entry, with_decision, with_return, events_of, IsLegal}
use Rattle.split_laws.specs.Split.{KeepsNumbers, TellsInside, hushed, told_inside}
use Rattle.{split_laws.specs.World, split_laws.specs.IsSplit, split_laws.specs.AgreeIn, kernel_history.specs.Trace.Trace}

-- The events of the steps u, made after t, the newest first.
abbrev pub events_since : Trace → Trace → List Event
events_since [] t = []
events_since (e ∷ u) t =
    with_return e.returns e.core
    (with_decision e.decides (after_enter e.enters (phase (u ++ t) e.core)) e.core
    (with_entry e.enters e.core (events_since u t)))

-- In the steps u, made after t, each component that is made takes a number of its core's side.
abbrev pub TakesOwnNumbers : World → Setting → Trace → Trace → Type 0
TakesOwnNumbers w setup u t = KeepsNumbers w setup (events_since u t) (events_of t)

-- In the steps u, made after t, a call of a core inside is refused for what a frame is, or for who refers to it, only for a frame inside.
abbrev pub RefusesInside : World → Setting → Trace → Trace → Type 0
RefusesInside w setup u t = TellsInside w setup (events_since u t) (events_of t)

-- In every legal trace, what is split stays so over any stretch of steps of all cores.
abbrev pub StretchesStaySplit : Type 0
StretchesStaySplit = (setup : Setting) → IsSetting setup → (u t : Trace) → IsLegal setup (u ++ t)
    → (w : World) → IsSplit w (state_after setup t) → TakesOwnNumbers w setup u t → IsSplit w (state_after setup (u ++ t))

-- The events of a stretch, in which each call of a core that works outside the world is answered as if it had lost a race.
abbrev pub hushed_since : World → Setting → Trace → Trace → List Event
hushed_since w setup u t = hushed w setup (events_since u t) (events_of t) ++ events_of t

-- In every legal trace, over any stretch of steps of all cores from where a world is split: with the calls of all cores outside hushed its
-- events are a run still, leave the world as the trace does, and tell the cores inside the same.
abbrev pub StretchesAreSilent : Type 0
StretchesAreSilent = (setup : Setting) → IsSetting setup → (u t : Trace) → IsLegal setup (u ++ t)
    → (w : World) → IsSplit w (state_after setup t) → TakesOwnNumbers w setup u t → RefusesInside w setup u t
    → IsRun setup (hushed_since w setup u t)
    × AgreeIn w (state_after setup (u ++ t)) (after setup (hushed_since w setup u t))
    × (told_inside w setup (hushed w setup (events_since u t) (events_of t)) (events_of t)
    ≡ told_inside w setup (events_since u t) (events_of t))
