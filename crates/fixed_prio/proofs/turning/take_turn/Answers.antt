use Rattle.std.proofs.Common.{◌<◌, arith, refl, Some, None}
use Rattle.fixed_prio.proofs.Taking.{come_so, none_so, chosen_so, long_so, is_renewal, is_chosen, turn_renews, turn_runs, turn_idles}
use Rattle.{fixed_prio.specs.Machines.after_calls, fixed_prio.proofs.Calling.core_0}
use Rattle.fixed_prio.proofs.turning.take_turn.Goals as goal

pub choose-requires : goal.choose-requires
choose-requires g c =
    let some = core_0 (g.M.Machine.setup c.args.m.now) (g.M.Machine.made c.args.m.now) c.args.k.now c.requires.beside in
    omega (arith, some)

pub renew-requires-clause-renewed : goal.renew-requires-clause-renewed
renew-requires-clause-renewed g c =
    let course = c.args.course.now in
    is_renewal course c.in-Some.come c.requires.course
    (come_so course.time course.jobs.items c.deref.result.now (Some c.in-Some.come) c.deref.ensures.value c.in-Some.ensures)

pub run-requires-clause-chosen : goal.run-requires-clause-chosen
run-requires-clause-chosen g c =
    let course = c.args.course.now in
    is_chosen (after_calls (g.M.Machine.setup c.args.m.now) (g.M.Machine.made c.args.m.now)) c.args.rule.now course c.in-Some-choose.choice
    c.length_of-n.result c.requires.rule c.requires.course
    (chosen_so (g.M.Machine.setup c.args.m.now) (g.M.Machine.made c.args.m.now) c.args.k.now c.args.rule.now course.time course.jobs.items
    c.deref-2.result.now (Some c.in-Some-choose.choice) c.requires.beside c.deref-2.ensures.value c.in-Some-choose.ensures)
    (long_so c.args.rule.now course.time course.jobs.items c.deref-in-Some-choose.result.now c.in-Some-choose.choice c.length_of-n.result
    c.deref-in-Some-choose.ensures.value c.length_of-n.ensures)

pub returns-in-Some-clause-takes : goal.returns-in-Some-clause-takes
returns-in-Some-clause-takes g c =
    let course = c.args.course.now in
    turn_renews (g.M.Machine.setup c.args.m.now) (g.M.Machine.made c.args.m.now) (g.M.Machine.made c.renew.new.m) course c.renew.new.course
    c.args.rule.now c.in-Some.come c.renew.result c.renew.new.k
    (come_so course.time course.jobs.items c.deref.result.now (Some c.in-Some.come) c.deref.ensures.value c.in-Some.ensures)
    c.renew.ensures.takes

pub returns-in-Some-choose-clause-takes : goal.returns-in-Some-choose-clause-takes
returns-in-Some-choose-clause-takes g c =
    let course = c.args.course.now in
    turn_runs (g.M.Machine.setup c.args.m.now) (g.M.Machine.made c.args.m.now) (g.M.Machine.made c.run.new.m) course c.run.new.course
    c.args.rule.now c.in-Some-choose.choice c.length_of-n.result c.run.result c.run.new.k
    (none_so course.time course.jobs.items c.deref.result.now c.renewal.result c.deref.ensures.value c.renewal.ensures
    c.in_default.not-Some)
    (chosen_so (g.M.Machine.setup c.args.m.now) (g.M.Machine.made c.args.m.now) c.args.k.now c.args.rule.now course.time course.jobs.items
    c.deref-2.result.now (Some c.in-Some-choose.choice) c.requires.beside c.deref-2.ensures.value c.in-Some-choose.ensures)
    (long_so c.args.rule.now course.time course.jobs.items c.deref-in-Some-choose.result.now c.in-Some-choose.choice c.length_of-n.result
    c.deref-in-Some-choose.ensures.value c.length_of-n.ensures)
    c.run.ensures.takes

pub returns-in-None-clause-takes : goal.returns-in-None-clause-takes
returns-in-None-clause-takes g c =
    let course = c.args.course.now in
    turn_idles (g.M.Machine.setup c.args.m.now) (g.M.Machine.made c.args.m.now) (g.M.Machine.made c.args.m.now) course c.idle.new.course
    c.args.rule.now c.idle.result c.args.k.now
    (none_so course.time course.jobs.items c.deref.result.now c.renewal.result c.deref.ensures.value c.renewal.ensures
    c.in_default.not-Some)
    (chosen_so (g.M.Machine.setup c.args.m.now) (g.M.Machine.made c.args.m.now) c.args.k.now c.args.rule.now course.time course.jobs.items
    c.deref-2.result.now None c.requires.beside c.deref-2.ensures.value c.in-None.ensures)
    c.idle.ensures refl c.requires.beside
