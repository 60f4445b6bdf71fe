use Rattle.std.proofs.Common.{◌<◌, ◌∙◌, length, arith}
use Rattle.script_reader.proofs.DraftSteps.{call_added}
use Rattle.script_reader.proofs.reading.add_call.Goals as goal

pub returns-clause-ok : goal.returns-clause-ok
returns-clause-ok c =
    let lt : c.from.result < length c.args.lists.now.items =
    omega (arith, c.requires, c.from.ensures, c.number.ensures.value, c.number.ensures.range) in
    call_added c.args.lists.now.items c.from.result c.args.core c.args.call c.index_mut.result.now c.push.new.self
    lt (c.from.ensures ∙ c.number.ensures.value) c.index_mut.ensures.value c.in_ok-push.ensures.items
