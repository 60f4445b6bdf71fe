use Rattle.std.proofs.Common.{◌∙◌, ap}
use Rattle.{page_drawing.specs.page_layers.specs.Seen.seen_made, page_drawing.specs.Pages.step_taken, draw_run.proofs.Finish.draws_next}
use Rattle.draw_run.proofs.drawing.DrawingWatcher.tell.Goals as goal

pub returns : goal.returns
returns c =
    draws_next c.args.self.now c.tell.new.self c.args.made.now
    (c.in_ok-tell.ensures ∙ ap (λ p. step_taken p (seen_made c.args.made.now)) c.self.view_is)
