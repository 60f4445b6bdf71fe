use Rattle.seq_caps.proofs.carrying.carry_out.Goals as goal

pub returns-in-Copy : goal.returns-in-Copy
returns-in-Copy c = rw c.in-Copy.is (c.copy.ensures c.args.core c.in-Copy.a c.in-Copy.t c.in-Copy.b)

pub returns-in-Grow : goal.returns-in-Grow
returns-in-Grow c = rw c.in-Grow.is (c.grow.ensures c.args.core c.in-Grow.t c.in-Grow.i c.in-Grow.l)

pub returns-in-Make : goal.returns-in-Make
returns-in-Make c = rw c.in-Make.is (c.make.ensures c.args.core c.in-Make.range c.in-Make.table c.in-Make.slot)

pub returns-in-Part : goal.returns-in-Part
returns-in-Part c = rw c.in-Part.is (c.part.ensures c.args.core c.in-Part.r c.in-Part.t c.in-Part.b)
