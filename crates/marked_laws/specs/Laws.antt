-- The law of the marks of legal traces.
use Rattle.std.specs.Prelude.{◌≡◌}
use Rattle.kernel_history.specs.{length, Setting, decisions_of, events_of, IsLegal}
use Rattle.marked_history.specs.{IsHistory, events_of as events_of_marks, decisions}
use Rattle.{kernel_history.specs.Trace.Trace, marked_laws.specs.Marks.marks_of}

-- The marks of the trace are a history, with as many decisions as the trace has, and their events are those of the trace.
pub record MarksAreHistory (setup : Setting) (t : Trace) : Type 0 where
  pub history : IsHistory setup (marks_of t)
  pub decided : decisions (marks_of t) ≡ length (decisions_of t)
  pub events : events_of_marks (marks_of t) ≡ events_of t

-- The marks of each legal trace are a history.
abbrev pub LegalMarks : Type 0
LegalMarks = (setup : Setting) (t : Trace) → IsLegal setup t → MarksAreHistory setup t
