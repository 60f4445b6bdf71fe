use Rattle.std.proofs.Common.{◌<◌, arith, true, false}
use Rattle.fixed_prio.proofs.{Calling.core_0, Taking.goes_so, Taking.runs_on, Taking.runs_anew}
use Rattle.fixed_prio.proofs.turning.run.Goals as goal

pub goes_on-requires : goal.goes_on-requires
goes_on-requires g c =
    let some = core_0 (g.M.Machine.setup c.args.m.now) (g.M.Machine.made c.args.m.now) c.args.k.now c.requires.beside in
    omega (arith, some)

pub returns-then-goes_on-clause-takes : goal.returns-then-goes_on-clause-takes
returns-then-goes_on-clause-takes g c =
    runs_on (g.M.Machine.setup c.args.m.now) (g.M.Machine.made c.args.m.now) (g.M.Machine.made c.tick.new.m) c.args.course.now
    c.tick.new.course c.args.choice.now c.args.n c.tick.result c.tick.new.k
    (goes_so (g.M.Machine.setup c.args.m.now) (g.M.Machine.made c.args.m.now) c.args.k.now c.args.course.now c.args.choice.now
    c.goes_on.result true c.requires.beside c.goes_on.ensures c.if-goes_on.true) c.tick.ensures.takes

pub returns-else-goes_on-clause-takes : goal.returns-else-goes_on-clause-takes
returns-else-goes_on-clause-takes g c =
    runs_anew (g.M.Machine.setup c.args.m.now) (g.M.Machine.made c.args.m.now) (g.M.Machine.made c.switch.new.m) c.args.course.now
    c.switch.new.course c.args.choice.now c.args.n c.switch.result c.switch.new.k
    (goes_so (g.M.Machine.setup c.args.m.now) (g.M.Machine.made c.args.m.now) c.args.k.now c.args.course.now c.args.choice.now
    c.goes_on.result false c.requires.beside c.goes_on.ensures c.if-goes_on.false) c.switch.ensures.takes
