use Rattle.{std.proofs.Common.◌<◌, std.proofs.Common.arith, std.proofs.Common.length, script_reader.proofs.ItemSteps.adds_more}
use Rattle.script_reader.proofs.items.take_items.Goals as goal

pub items-preserved : goal.items-preserved
items-preserved c =
    let few : length c.items.order.items < 200000 = omega (arith, c.items.order.ok.0) in
    adds_more c.args.version c.args.cores c.args.order.now.items c.args.words.now c.items.word-index c.items.order.items c.push.new.self.items _
    c.in_ok-item.item c.items-test.true c.in_ok-item.ensures.value
    c.in_ok-item.ensures.below few c.in_ok-push.ensures.items c.items.invariant
