-- What is shown of a step by its view is what is shown of the step.
use Rattle.page_touches.specs.step_views.specs.kernel_history.proofs.{◌≡◌, refl, ◌∙◌, ap, Shape, place_of, Move, LoadOf, CompareOf, StoreOf}
use Rattle.page_touches.specs.step_views.specs.kernel_history.proofs.{AddOf, word_of}
use Rattle.page_touches.specs.step_views.specs.kernel_history.proofs.{op_of, place_in, Step}
use Rattle.page_touches.specs.page_layers.specs.{seen, seen_made}
use Rattle.page_touches.specs.step_views.specs.{declared.views.StepMade.StepMade, Views.IsTold}

place_there : (s : Shape) (m : Move) → place_in (op_of s m) ≡ place_of s (word_of m)
place_there s (LoadOf w) = refl
place_there s (CompareOf w x y) = refl
place_there s (StoreOf w x) = refl
place_there s (AddOf w x) = refl

pub seen_as_made : (s : Shape) (made : StepMade) (e : Step) → IsTold s made e → seen_made made ≡ seen s e
seen_as_made s made e h = λ i. record {
  core = h.shown.core i;
  place = (ap (λ op. place_in op) h.shown.op ∙ place_there s e.move) i;
  word = h.shown.word i;
  found = h.shown.found i;
  left = h.shown.left i;
  enters = h.shown.enters i;
  decides = h.decides i;
  returns = h.returns i;
}
