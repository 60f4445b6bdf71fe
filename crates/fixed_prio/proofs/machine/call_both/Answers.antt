use Rattle.plain_kernel.specs.seq_state.proofs.{◌<◌, sym, subst, state_of}
use Rattle.{plain_kernel.specs.Step.StepsExactly, fixed_prio.proofs.Calling.core_0, fixed_prio.proofs.Calling.makes_both}
use Rattle.fixed_prio.proofs.machine.call_both.Goals as goal

pub plain_step-requires-clause-core : goal.plain_step-requires-clause-core
plain_step-requires-clause-core g c = subst (λ n. n < (state_of c.args.k.now).limits.cores) (sym c.new.ensures)
    (core_0 (g.M.Machine.setup c.args.m.now) (g.M.Machine.made c.args.m.now) c.args.k.now c.requires.beside)

pub returns-clause-both : goal.returns-clause-both
returns-clause-both g c =
    makes_both (g.M.Machine.setup c.args.m.now) (g.M.Machine.made c.args.m.now) c.args.k.now c.args.call c.call-reply.result c.in-Ok.field-0
    (g.M.Machine.made c.call-reply.new.self) c.plain_step.new.k c.requires.beside c.call-reply.ensures.made c.call-reply.ensures.reply
    (subst (λ n. StepsExactly c.args.k.now n c.args.call c.in-Ok.field-0 c.plain_step.new.k) c.new.ensures c.in-Ok.ensures.exact)
