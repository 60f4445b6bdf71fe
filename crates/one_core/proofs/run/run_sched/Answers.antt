use Rattle.one_core.proofs.Schedules.{scheduled}
use Rattle.one_core.proofs.run.run_sched.Goals as goal

pub returns-clause-text : goal.returns-clause-text
returns-clause-text c =
    scheduled c.args.source.now _ c.in_ok-text.field-0.machine c.counted-calls.ensures.one_core c.counted-calls.ensures.seen
    c.counted-calls.ensures.core c.in_ok-text.ensures.made
