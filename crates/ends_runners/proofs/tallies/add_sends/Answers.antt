use Rattle.ends_runners.proofs.Sends.{added_more, added_room}
use Rattle.ends_runners.proofs.tallies.add_sends.Goals as goal

pub add_send-requires-clause-room : goal.add_send-requires-clause-room
add_send-requires-clause-room c =
    added_room c.args.done.now c.loop-one.one-index c.args.sent.now.items c.loop-one.sent.items c.loop-one-test.true
    c.loop-one.invariant.adds c.requires.room

pub loop-one-preserved : goal.loop-one-preserved
loop-one-preserved c = record {
  size = c.add_send.ensures.size;
  adds = added_more c.args.done.now c.loop-one.one-index c.one-item.result c.args.sent.now.items c.loop-one.sent.items
      c.add_send.new.sent.items c.loop-one-test.true c.one-item.is c.loop-one.invariant.adds c.add_send.ensures.adds;
}
