-- A step as it is written, by its view.
use Rattle.step_views.specs.kernel_history.specs.{ℕ, List, codes, WordOp}
use Rattle.spk_nums.specs.declared.steps.WordOp.TheVariants.{Load, Compare, Store, Add}
use Rattle.step_views.specs.{declared.views.StepMade.StepMade, declared.views.StepView.StepView, Names.named}
use Rattle.trace_lines.specs.Steps.{written_step, lines_at}

-- an operation by the place of its word
abbrev pub op_text : WordOp → List ℕ
op_text (Load at) = codes " load "
op_text (Compare at expected new) = codes " compare "
op_text (Store at new) = codes " store "
op_text (Add at by) = codes " add "

-- the step of a view
abbrev pub view_text : StepView → List ℕ
view_text v = written_step v.core (op_text v.op) (named v.word) v.found v.left

-- the lines of the events of a step that was made
abbrev pub made_lines : StepMade → List (List ℕ)
made_lines made = lines_at made.view.core made.view.enters made.decides made.returns
