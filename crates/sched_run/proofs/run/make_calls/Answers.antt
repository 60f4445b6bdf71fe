use Rattle.{std.proofs.Common.subst, std.proofs.Common.◌∙◌, fixed_prio.specs.Machines.MakesBoth, sched_run.proofs.Making.one_more}
use Rattle.sched_run.proofs.run.make_calls.Goals as goal

pub calls-preserved : goal.calls-preserved
calls-preserved g c =
    let both = subst (λ s. MakesBoth s (g.M.Machine.made c.calls.m) c.call-item.result c.call_both-reply.result
    (g.M.Machine.made c.call_both-reply.new.m) c.call_both-reply.new.k) c.calls.invariant.setup c.call_both-reply.ensures.both in
    record {
      setup = c.call_both-reply.ensures.setup ∙ c.calls.invariant.setup;
      made = one_more (g.M.Machine.made c.args.m.now) (g.M.Machine.made c.calls.m) (g.M.Machine.made c.call_both-reply.new.m)
          c.args.calls.now c.calls.call-index c.call-item.result c.calls-test.true c.call-item.is c.calls.invariant.made both.made;
      beside = both.beside;
    }
