use Rattle.seq_time.proofs.changing.carry_out.Goals as goal

pub returns-in-Gate : goal.returns-in-Gate
returns-in-Gate c = rw c.in-Gate.is (c.gate.ensures c.args.core c.in-Gate.c c.in-Gate.t c.in-Gate.b)

pub returns-in-Kill : goal.returns-in-Kill
returns-in-Kill c = rw c.in-Kill.is (c.kill.ensures c.args.core c.in-Kill.c)

pub returns-in-Call : goal.returns-in-Call
returns-in-Call c = rw c.in-Call.is (c.enter.ensures c.in-Call.g)

pub returns-in-Ret : goal.returns-in-Ret
returns-in-Ret c = rw c.in-Ret.is (c.leave.ensures c.args.looked.now)

pub returns-in-Switch : goal.returns-in-Switch
returns-in-Switch c = rw c.in-Switch.is (c.switch.ensures c.in-Switch.h c.in-Switch.q)

pub returns-in-Transfer : goal.returns-in-Transfer
returns-in-Transfer c = rw c.in-Transfer.is (c.transfer.ensures c.args.core c.in-Transfer.a c.in-Transfer.b)

pub returns-in-Delegate : goal.returns-in-Delegate
returns-in-Delegate c = rw c.in-Delegate.is (c.delegate.ensures c.args.core c.in-Delegate.a c.in-Delegate.b)

pub returns-in-Test : goal.returns-in-Test
returns-in-Test c = rw c.in-Test.is (c.test.ensures c.args.core c.in-Test.a c.in-Test.b)

pub returns-in-Replenish : goal.returns-in-Replenish
returns-in-Replenish c = rw c.in-Replenish.is (c.replenish.ensures c.in-Replenish.a)
