-- The events of a trace: the invocations, decisions and responses of its steps, the newest first.
use Rattle.std.specs.Prelude.{◌∷◌}
use Rattle.kernel_rules.specs.{ℕ, List, [], Option, Some, None, Call, Reply, Event, Enters, Decides, Returns, Phase as event_phase}
use Rattle.kernel_rules.specs.{Out as is_out, Open as is_open, Decided as is_decided}
use Rattle.kernel_history.specs.Trace.{Trace, Phase, Out, Open, Decided, phase, after_enter}

-- The events with that of a step that may enter a call.
abbrev pub with_entry : Option Call → ℕ → List Event → List Event
with_entry None c events = events
with_entry (Some call) c events = Enters c call ∷ events

-- The events with that of a step that may decide, in this phase.
abbrev pub with_decision : Option Reply → Phase → ℕ → List Event → List Event
with_decision None p c events = events
with_decision (Some r) Out c events = events
with_decision (Some r) (Open call) c events = Decides c call r ∷ events
with_decision (Some r) (Decided call q) c events = events

-- The events with that of a step that may return.
abbrev pub with_return : Option Reply → ℕ → List Event → List Event
with_return None c events = events
with_return (Some r) c events = Returns c ∷ events

-- The events of a trace; at one step the invocation comes first, then the decision, then the response.
abbrev pub events_of : Trace → List Event
events_of [] = []
events_of (e ∷ t) =
    with_return e.returns e.core
    (with_decision e.decides (after_enter e.enters (phase t e.core)) e.core
    (with_entry e.enters e.core (events_of t)))

-- The phase of a core, in the words of the sequential kernel.
abbrev pub plain_phase : Phase → event_phase
plain_phase Out = is_out
plain_phase (Open call) = is_open call
plain_phase (Decided call r) = is_decided call r
