use Rattle.{std.proofs.Common.rules, end_ports.specs.async_ends.specs.declared.endpoint.EndOp.TheVariants.Recv, speck_c.specs.Slots.held_in}
use Rattle.{speck_c.proofs.Told.told_asked}
use Rattle.speck_c.proofs.asks.speck_inner_recv.Goals as goal

pub returns-in-Some-told : goal.returns-in-Some-told
returns-in-Some-told c =
    told_asked Recv c.new.result c.args.comp (held_in c.args.port.now) c.deref_mut.result.now c.recv_held-told.new.held c.recv_held-told.result
    c.in-Some-told.reply c.flat_end_reply.result (held_in c.put.new.self) (search rules) (search rules) (search rules) (search rules)
    c.recv_held-told.ensures c.flat_end_reply.ensures
