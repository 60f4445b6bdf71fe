use Rattle.load_maker.proofs.calls.call_numbered.Goals as goal

pub returns-in-2 : goal.returns-in-2
returns-in-2 c = rw c.in-2.is c.remove.ensures

pub returns-in-3 : goal.returns-in-3
returns-in-3 c = rw c.in-3.is c.retype.ensures

pub returns-in-4 : goal.returns-in-4
returns-in-4 c = rw c.in-4.is c.make.ensures

pub returns-in-5 : goal.returns-in-5
returns-in-5 c = rw c.in-5.is c.map.ensures

pub returns-in-6 : goal.returns-in-6
returns-in-6 c = rw c.in-6.is c.unmap.ensures

pub returns-in-7 : goal.returns-in-7
returns-in-7 c = rw c.in-7.is c.touch.ensures

pub returns-in-8 : goal.returns-in-8
returns-in-8 c = rw c.in-8.is c.tick.ensures

pub returns-in-9 : goal.returns-in-9
returns-in-9 c = rw c.in-9.is c.transfer.ensures
