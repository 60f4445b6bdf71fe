use Rattle.{std.proofs.Common.sym, std.proofs.Common.◌∙◌, fixed_prio.proofs.Taking.tick_runs, fixed_prio.proofs.Taking.tick_refused}
use Rattle.fixed_prio.proofs.turning.tick.Goals as goal

pub returns-then-is_done-clause-takes : goal.returns-then-is_done-clause-takes
returns-then-is_done-clause-takes g c =
    let o = c.run_on.ensures in
    tick_runs (g.M.Machine.setup c.args.m.now) (g.M.Machine.made c.args.m.now) (g.M.Machine.made c.call_both-reply.new.m) c.args.course.now
    c.run_on.new.course c.args.choice.now c.args.n c.call_both-reply.result c.run_on.result c.call_both-reply.new.k
    c.call_both-reply.ensures.both (sym c.is_done.ensures ∙ c.if-is_done.true)
    (record { turn = o.turn; time = o.time; last = o.last; jobs = o.jobs })

pub returns-else-is_done-clause-takes : goal.returns-else-is_done-clause-takes
returns-else-is_done-clause-takes g c =
    let o = c.put_out.ensures in
    tick_refused (g.M.Machine.setup c.args.m.now) (g.M.Machine.made c.args.m.now) (g.M.Machine.made c.call_both-reply.new.m)
    c.args.course.now c.put_out.new.course c.args.choice.now c.args.n c.call_both-reply.result c.put_out.result c.call_both-reply.new.k
    c.call_both-reply.ensures.both (sym c.is_done.ensures ∙ c.if-is_done.false)
    (record { turn = o.turn; time = o.time; last = o.last; jobs = o.jobs })
