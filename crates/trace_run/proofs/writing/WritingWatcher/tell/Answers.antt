use Rattle.trace_lines.specs.{step_told, view_text, made_lines}
use Rattle.{std.proofs.Common.◌∙◌, std.proofs.Common.ap, trace_run.proofs.Finish.writes_next}
use Rattle.trace_run.proofs.writing.WritingWatcher.tell.Goals as goal

pub returns : goal.returns
returns c =
    writes_next c.args.self.now c.tell.new.self c.args.made.now
    (c.in_ok-tell.ensures ∙ ap (λ w. step_told w (view_text c.args.made.now.view) (made_lines c.args.made.now)) c.self.view_is)
