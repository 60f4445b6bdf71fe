use Rattle.plain_tables.proofs.names.push_object.Goals as goal

pub returns-in-Thread : goal.returns-in-Thread
returns-in-Thread c = rw c.in-Thread.is c.push_stack.ensures
