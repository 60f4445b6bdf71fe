use Rattle.{std.proofs.Common.map, draw_run.proofs.Finish.given}
use Rattle.draw_run.proofs.given.draw.Goals as goal

pub returns : goal.returns
returns c =
    given c.args.page c.args.setup.now (map (λ v. v.items) c.args.lists.items) c.args.items.now c.in_ok-drawing.drawing
    c.watch.new.watcher _ c.in_ok-drawing.ensures c.in_ok-text.ensures (c.in_ok-watch.ensures (λ wanted begun. begun))
