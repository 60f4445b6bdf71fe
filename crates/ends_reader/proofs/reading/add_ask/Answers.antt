use Rattle.std.proofs.Common.{◌<◌, ◌∙◌, length, arith}
use Rattle.ends_reader.proofs.InputSteps.{ask_added}
use Rattle.ends_reader.proofs.reading.add_ask.Goals as goal

pub returns-clause-ok : goal.returns-clause-ok
returns-clause-ok c =
    let lt : c.from.result < length c.args.asks.now.items =
    omega (arith, c.requires, c.from.ensures, c.number.ensures.value, c.number.ensures.range) in
    ask_added c.args.asks.now.items c.from.result c.args.core c.args.ask c.index_mut.result.now c.push.new.self
    lt (c.from.ensures ∙ c.number.ensures.value) c.index_mut.ensures.value c.in_ok-push.ensures.items
