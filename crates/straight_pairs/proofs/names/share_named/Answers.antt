use Rattle.straight_pairs.proofs.Naming.{second_at}
use Rattle.straight_pairs.proofs.names.share_named.Goals as goal

pub name-requires-2-clause-stands : goal.name-requires-2-clause-stands
name-requires-2-clause-stands g c =
    second_at c.args.own.now c.args.call.now c.args.two.now c.none-caps.result c.push.new.self c.in-Finds.cap
    (g.W.Words.core c.name.new.words) c.requires.names c.requires.second c.none-caps.ensures c.push.ensures c.in-Finds.ensures.core
