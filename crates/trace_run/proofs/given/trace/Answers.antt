use Rattle.{std.proofs.Common.map, trace_run.proofs.Finish.given}
use Rattle.trace_run.proofs.given.trace.Goals as goal

pub returns : goal.returns
returns c =
    given c.args.version c.args.setup.now (map (λ v. v.items) c.args.lists.items) c.args.items.now c.in_ok-writing.writing
    c.watch.new.watcher _ c.in_ok-writing.ensures c.into_text.ensures (c.in_ok-watch.ensures (λ head begun. begun))
