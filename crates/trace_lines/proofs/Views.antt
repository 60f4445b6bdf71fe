-- What is written of a step by its view is what is written of the step.
use Rattle.step_views.specs.kernel_history.proofs.{◌≡◌, refl, ap, ◌∙◌, List, ℕ, Shape, Move, LoadOf, CompareOf, StoreOf, AddOf, op_of, Step}
use Rattle.trace_lines.specs.{step_text, event_lines, Told, step_told, view_text, made_lines}
use Rattle.step_views.specs.{IsShown, IsTold, declared.views.StepMade.StepMade, declared.views.StepView.StepView}
use Rattle.trace_lines.specs.{Steps.move_text, Steps.written_step, Steps.lines_at, Views.op_text}

op_is : (s : Shape) (m : Move) → op_text (op_of s m) ≡ move_text m
op_is s (LoadOf w) = refl
op_is s (CompareOf w expected new) = refl
op_is s (StoreOf w new) = refl
op_is s (AddOf w by) = refl

shown_text : (s : Shape) (v : StepView) (e : Step) → IsShown s v e → view_text v ≡ step_text e
shown_text s v e h =
    let op : op_text v.op ≡ move_text e.move = ap op_text h.op ∙ op_is s e.move in
    λ i. written_step (h.core i) (op i) (h.word i) (h.found i) (h.left i)

shown_lines : (s : Shape) (made : StepMade) (e : Step) → IsTold s made e → made_lines made ≡ event_lines e
shown_lines s made e h = λ i. lines_at (h.shown.core i) (h.shown.enters i) (h.decides i) (h.returns i)

pub told_as_made : (s : Shape) (made : StepMade) (e : Step) (w : Told) → IsTold s made e
    → step_told w (view_text made.view) (made_lines made) ≡ step_told w (step_text e) (event_lines e)
told_as_made s made e w h =
    let text = shown_text s made.view e h.shown in
    let lines = shown_lines s made e h in
    λ i. step_told w (text i) (lines i)
