use Rattle.seq_time.proofs.own_causes.causes.Goals as goal

pub returns-in-Switch-clause-exact : goal.returns-in-Switch-clause-exact
returns-in-Switch-clause-exact c = rw c.in-Switch.is (c.not_switched.ensures.exact c.args.core c.in-Switch.h c.in-Switch.q)
