-- The marks of a trace: the entries, decisions and returns of its steps, the newest first.
use Rattle.std.specs.Prelude.{◌∷◌}
use Rattle.kernel_history.specs.{ℕ, List, [], Option, Some, None, Call, Reply}
use Rattle.marked_history.specs.declared.marks.Mark.TheVariants.{Enter, Decide, Return}
use Rattle.{kernel_history.specs.Trace.Trace, marked_history.specs.declared.marks.Mark.Mark}

-- The marks with that of a step that may enter a call, that may decide, and that may return.
abbrev pub with_enter : Option Call → ℕ → List Mark → List Mark
with_enter None c marks = marks
with_enter (Some call) c marks = Enter c call ∷ marks

abbrev pub with_decide : Option Reply → ℕ → List Mark → List Mark
with_decide None c marks = marks
with_decide (Some r) c marks = Decide c r ∷ marks

abbrev pub with_return : Option Reply → ℕ → List Mark → List Mark
with_return None c marks = marks
with_return (Some r) c marks = Return c ∷ marks

-- The marks of a trace; at one step the entry comes first, then the decision, then the return.
abbrev pub marks_of : Trace → List Mark
marks_of [] = []
marks_of (e ∷ t) = with_return e.returns e.core (with_decide e.decides e.core (with_enter e.enters e.core (marks_of t)))
