use Rattle.{std.proofs.Common.length, std.proofs.Common.arith, load_maker.specs.script_reader.specs.Readings.lists_of}
use Rattle.{speck_run.proofs.Accepted.accepted}
use Rattle.speck_run.proofs.inputs.judge_trace.Goals as goal

pub trace-requires-clause-can_run : goal.trace-requires-clause-can_run
trace-requires-clause-can_run c =
    let small = c.requires in
    accepted (length c.args.bytes.now) (lists_of c.in-Ok.script.lists.items)
    c.in-Ok.ensures.script.limits c.in-Ok.ensures.calls (omega arith)
