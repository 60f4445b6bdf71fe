use Rattle.{std.proofs.Common.length, std.proofs.Common.arith, load_maker.specs.script_reader.specs.Readings.lists_of}
use Rattle.{speck_run.proofs.Accepted.accepted}
use Rattle.{speck_run.proofs.Accepted.few_lists}
use Rattle.speck_run.proofs.inputs.judge_origins.Goals as goal

pub origins-requires-clause-can_run : goal.origins-requires-clause-can_run
origins-requires-clause-can_run c =
    let small = c.requires in
    accepted (length c.args.bytes.now) (lists_of c.in-Ok.script.lists.items)
    c.in-Ok.ensures.script.limits c.in-Ok.ensures.calls (omega arith)

pub origins-requires-clause-few : goal.origins-requires-clause-few
origins-requires-clause-few c =
    let small = c.requires in
    few_lists (length c.args.bytes.now) (lists_of c.in-Ok.script.lists.items) c.in-Ok.ensures.calls (omega arith)
