-- What is drawn at the end of a run is the trace that was watched.
use Rattle.told_run.specs.lone_kernel.specs.flight.proofs.{◌≡◌, ℕ, List, [], ◌∷◌, refl, sym, ◌∙◌, ap, Setting, Call, Item, Step, Trace}
use Rattle.{told_run.specs.lone_kernel.specs.flight.proofs.shape_of, page_drawing.specs.Page, page_drawing.specs.blank}
use Rattle.{page_drawing.specs.page_after, page_drawing.specs.page_layers.specs.seen, page_drawing.specs.page_layers.specs.seen_made}
use Rattle.{page_drawing.specs.step_views.specs.declared.views.StepMade.StepMade, told_run.specs.Watching.IsNext}
use Rattle.{told_run.specs.GivenWatched.GivenWatched, page_drawing.specs.Pages.step_taken, page_drawing.specs.Pictures.text_of}
use Rattle.{page_drawing.proofs.Views.seen_as_made, draw_run.specs.GivenDrawing.GivenDrawing, draw_run.specs.Drawn.has_drawn}

-- one step more is drawn
pub draws_next : (p p' : Page) (made : StepMade) → p' ≡ step_taken p (seen_made made)
    → (setup : Setting) (first : Page) (t : Trace) (e : Step) → IsNext setup t made e → has_drawn setup first t p
    → has_drawn setup first (e ∷ t) p'
draws_next p p' made drawn setup first t e next seen_so = λ wanted begun.
    drawn ∙ ap (λ s. step_taken p s) (seen_as_made (shape_of setup) made e next.told)
    ∙ ap (λ q. step_taken q (seen (shape_of setup) e)) (seen_so wanted begun)

-- the picture of what was watched
pub given : (wanted : ℕ) (setup : Setting) (lists : List (List Call)) (items : List Item) (first last : Page) (text : List ℕ)
    → first ≡ blank wanted setup → text ≡ text_of last
    → GivenWatched Page (λ setup first t last. has_drawn setup first t last) setup lists items first last
    → GivenDrawing wanted setup lists items text
given wanted setup lists items first last text begun is w = record {
  trace = w.trace;
  history = w.history;
  calls = w.calls;
  order = w.order;
  is_picture = is ∙ ap (λ p. text_of p) (w.seen wanted begun);
}
