-- What the entries of the table are as a history: each is one event, which the entry alone tells.
use Rattle.std.specs.Prelude.{ℕ, ◌==◌, List, [], ◌∷◌, if◌then◌else◌, Option, Some, None}
use Rattle.turn_rule.specs.declared.view.Entry.{Entry}
use Rattle.async_ends.specs.{declared.asks.Look.Look, declared.endpoint.EndOp.EndOp, declared.endpoint.EndOp.TheVariants.Send}
use Rattle.async_ends.specs.{declared.endpoint.EndOp.TheVariants.Recv, declared.endpoint.EndCall.EndCall, Events.EndStep, Events.Added}
use Rattle.async_ends.specs.{Events.Loaded, Events.Took, Events.Missed, Events.Event, Events.event}

-- The step with which a call begins: a send's add, or a receive's load.
abbrev pub first_step : EndOp → Look → ℕ → EndStep
first_step Send l found = Added l
first_step Recv l found = Loaded l found

-- The compare of a receive, which took the count that it found where it changed it.
abbrev pub later_step : ℕ → ℕ → EndStep
later_step found left = if found == left then Missed found else Took found

abbrev pub step_in : Option EndCall → ℕ → ℕ → EndStep
step_in None found left = later_step found left
step_in (Some call) found left = first_step call.op call.look found

abbrev pub event_in : Entry EndCall → Event
event_in e = event e.core e.at (step_in e.call e.found e.left)

-- The history of the entries.
abbrev pub history_of : List (Entry EndCall) → List Event
history_of [] = []
history_of (e ∷ t) = event_in e ∷ history_of t
