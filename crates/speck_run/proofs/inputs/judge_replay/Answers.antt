use Rattle.{std.proofs.Common.length, std.proofs.Common.arith, load_maker.specs.script_reader.specs.Readings.lists_of}
use Rattle.{speck_run.proofs.Accepted.accepted}
use Rattle.speck_run.proofs.inputs.judge_replay.Goals as goal

pub replay-requires-clause-can_run : goal.replay-requires-clause-can_run
replay-requires-clause-can_run c =
    let small = c.requires in
    accepted (length c.args.bytes.now) (lists_of c.in-Ok.script.lists.items)
    c.in-Ok.ensures.script.limits c.in-Ok.ensures.calls (omega arith)
