-- When a view shows a step of a trace.
use Rattle.std.specs.Prelude.{◌≡◌}
use Rattle.kernel_history.specs.{Shape, word_of, op_of, left_of, Step}
use Rattle.step_views.specs.{declared.views.StepMade.StepMade, declared.views.StepView.StepView, Names.named}

-- The view has the step's core, the call that begins with it, its operation by the place of its word, the word's name, and the
-- values found and left.
pub record IsShown (s : Shape) (v : StepView) (e : Step) : Type 0 where
  pub core : v.core ≡ e.core
  pub enters : v.enters ≡ e.enters
  pub op : v.op ≡ op_of s e.move
  pub word : named v.word ≡ word_of e.move
  pub found : v.found ≡ e.found
  pub left : v.left ≡ left_of e.move e.found

-- The same of a step that was made, with the replies that are decided at it and returned.
pub record IsTold (s : Shape) (made : StepMade) (e : Step) : Type 0 where
  pub shown : IsShown s made.view e
  pub decides : made.decides ≡ e.decides
  pub returns : made.returns ≡ e.returns
