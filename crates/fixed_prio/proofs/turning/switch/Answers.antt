use Rattle.std.proofs.Common.{[], sym, ◌∙◌, subst}
use Rattle.{fixed_prio.specs.after_calls, fixed_prio.specs.progress, sched_rules.specs.ticks, sched_rules.specs.switch_for}
use Rattle.{fixed_prio.specs.Courses.Takes, fixed_prio.proofs.Taking.switch_ticks, fixed_prio.proofs.Taking.switch_refused}
use Rattle.fixed_prio.proofs.turning.switch.Goals as goal

pub returns-then-is_done-clause-takes : goal.returns-then-is_done-clause-takes
returns-then-is_done-clause-takes g c =
    let made1 = g.M.Machine.made c.call_both-reply.new.m in
    switch_ticks (g.M.Machine.setup c.args.m.now) (g.M.Machine.made c.args.m.now) made1 (g.M.Machine.made c.tick.new.m)
    c.args.course.now c.tick.new.course c.args.choice.now (switch_for c.args.choice.now.job.task) c.args.n c.call_both-reply.result
    c.tick.result c.call_both-reply.new.k c.tick.new.k c.call_both-reply.ensures.both (sym c.is_done.ensures ∙ c.if-is_done.true)
    (subst (λ s. Takes s made1 (ticks (progress s made1 c.args.course.now) c.args.choice.now (after_calls s made1) [] c.args.n)
    c.tick.result (g.M.Machine.made c.tick.new.m) c.tick.new.course c.tick.new.k) c.call_both-reply.ensures.setup c.tick.ensures.takes)

pub returns-else-is_done-clause-takes : goal.returns-else-is_done-clause-takes
returns-else-is_done-clause-takes g c =
    let o = c.put_out.ensures in
    switch_refused (g.M.Machine.setup c.args.m.now) (g.M.Machine.made c.args.m.now) (g.M.Machine.made c.call_both-reply.new.m)
    c.args.course.now c.put_out.new.course c.args.choice.now (switch_for c.args.choice.now.job.task) c.args.n c.call_both-reply.result
    c.put_out.result c.call_both-reply.new.k c.call_both-reply.ensures.both (sym c.is_done.ensures ∙ c.if-is_done.false)
    (record { turn = o.turn; time = o.time; last = o.last; jobs = o.jobs })
