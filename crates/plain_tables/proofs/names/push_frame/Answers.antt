use Rattle.plain_tables.proofs.names.push_frame.Goals as goal

pub returns-in-Kernel : goal.returns-in-Kernel
returns-in-Kernel c = rw c.in-Kernel.is c.push_object.ensures
