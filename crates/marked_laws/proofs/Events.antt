-- The events of a trace's marks are the trace's events.
use Rattle.kernel_history.proofs.{◌≡◌, ℕ, List, [], ◌∷◌, Option, Some, None, refl, ◌∙◌, ap, Call, Reply, Event, Enters, Returns, phase_of}
use Rattle.kernel_history.proofs.{Step, Phase, Out, Decided, phase, after_enter, after_decide, with_entry, with_decision, with_return}
use Rattle.kernel_history.proofs.{events_of, plain_phase, entered_events, decided_events, entered_phase, phase_is}
use Rattle.marked_laws.specs.{with_enter, with_decide, with_return as marks_return, marks_of}
use Rattle.marked_history.specs.{with_decision as decided_mark, events_of as events_of_marks, phase as phase_of_marks}
use Rattle.kernel_history.specs.Trace.{Trace, Open}
use Rattle.{kernel_history.proofs.Events.decided_phase, marked_history.specs.declared.marks.Mark.Mark}

-- The marks of the steps before e, and e's own but its return; those but its decision.
abbrev pub entered_marks : Trace → Step → List Mark
entered_marks t e = with_enter e.enters e.core (marks_of t)

abbrev pub decided_marks : Trace → Step → List Mark
decided_marks t e = with_decide e.decides e.core (entered_marks t e)

entry_events : (o : Option Call) (c : ℕ) (marks : List Mark) (events : List Event) → events_of_marks marks ≡ events
    → events_of_marks (with_enter o c marks) ≡ with_entry o c events
entry_events None c marks events is = is
entry_events (Some call) c marks events is = ap (λ (es : List Event). Enters c call ∷ es) is

return_events : (o : Option Reply) (c : ℕ) (marks : List Mark) (events : List Event) → events_of_marks marks ≡ events
    → events_of_marks (marks_return o c marks) ≡ with_return o c events
return_events None c marks events is = is
return_events (Some r) c marks events is = ap (λ (es : List Event). Returns c ∷ es) is

-- A decision is of the call that is open, to the marks as to the trace.
by_phase : (p : Phase) (r : Reply) (c : ℕ) (events : List Event)
    → decided_mark (plain_phase p) c r events ≡ with_decision (Some r) p c events
by_phase Out r c events = refl
by_phase (Open call) r c events = refl
by_phase (Decided call q) r c events = refl

decision_events : (o : Option Reply) (p : Phase) (c : ℕ) (marks : List Mark) (events : List Event) → events_of_marks marks ≡ events
    → phase_of events c ≡ plain_phase p → events_of_marks (with_decide o c marks) ≡ with_decision o p c events
decision_events None p c marks events is in_phase = is
decision_events (Some r) p c marks events is in_phase =
    ap (λ (es : List Event). decided_mark (phase_of es c) c r es) is ∙ ap (λ q. decided_mark q c r events) in_phase ∙ by_phase p r c events

pub events_are : (t : Trace) → events_of_marks (marks_of t) ≡ events_of t
events_are [] = refl
events_are (e ∷ t) =
    return_events e.returns e.core (decided_marks t e) (decided_events t e)
    (decision_events e.decides (after_enter e.enters (phase t e.core)) e.core (entered_marks t e) (entered_events t e)
    (entry_events e.enters e.core (marks_of t) (events_of t) (events_are t)) (entered_phase t e))

module _ (t : Trace) (e : Step) where
  pub entered_are : events_of_marks (entered_marks t e) ≡ entered_events t e
  entered_are = entry_events e.enters e.core (marks_of t) (events_of t) (events_are t)

  pub decided_are : events_of_marks (decided_marks t e) ≡ decided_events t e
  decided_are = decision_events e.decides (after_enter e.enters (phase t e.core)) e.core (entered_marks t e) (entered_events t e)
      entered_are (entered_phase t e)

  -- The phase of e's core after its entry, and after its decision.
  pub entered_in : phase_of_marks (entered_marks t e) e.core ≡ plain_phase (after_enter e.enters (phase t e.core))
  entered_in = ap (λ (es : List Event). phase_of es e.core) entered_are ∙ entered_phase t e

  pub decided_in : phase_of_marks (decided_marks t e) e.core ≡ plain_phase (after_decide e.decides (after_enter e.enters (phase t e.core)))
  decided_in = ap (λ (es : List Event). phase_of es e.core) decided_are ∙ decided_phase t e

-- The phase of a core.
pub marks_in : (t : Trace) (c : ℕ) → phase_of_marks (marks_of t) c ≡ plain_phase (phase t c)
marks_in t c = ap (λ (es : List Event). phase_of es c) (events_are t) ∙ phase_is t c
