-- Laws of histories, each the contract of a function of this crate.
use Rattle.std.specs.Prelude.{◌≡◌}
use Rattle.kernel_rules.specs.{List, Setting, IsRun}
use Rattle.marked_history.specs.{declared.marks.Mark.Mark, declared.marks.Line.Line, declared.marks.Verdict.Verdict, Histories.events_of}
use Rattle.marked_history.specs.{Histories.IsHistory, Verdicts.IsVerdict}

-- The events of a history are a run.
abbrev pub HistoriesRun : Type 0
HistoriesRun = (setting : Setting) (marks : List Mark) → IsHistory setting marks → IsRun setting (events_of marks)

-- Two verdicts on the same lines are one.
abbrev pub OneVerdict : Type 0
OneVerdict = (setting : Setting) (lines : List Line) (v w : Verdict) → IsVerdict setting lines v → IsVerdict setting lines w → v ≡ w
