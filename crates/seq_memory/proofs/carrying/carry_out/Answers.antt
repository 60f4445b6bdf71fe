use Rattle.seq_memory.proofs.carrying.carry_out.Goals as goal

pub returns-in-Retype : goal.returns-in-Retype
returns-in-Retype c = rw c.in-Retype.is (λ may. c.retype.ensures c.args.core c.in-Retype.r c.args.looked.now may)

pub returns-in-Map : goal.returns-in-Map
returns-in-Map c = rw c.in-Map.is (c.map.ensures c.args.core c.in-Map.p c.in-Map.v c.in-Map.r)
