use Rattle.core_kernel.specs.flight_laws.specs.flight.proofs.{◌≡◌, ◌∙◌, [], ◌∷◌, ◌++◌, ap, subst, calls_of}
use Rattle.{core_kernel.specs.KernelValue, core_kernel.specs.CoreSeatValue, sched_start.specs.sched_rules.specs.Schedule.reply_to}
use Rattle.{sched_run.specs.fixed_prio.specs.Machines.after_calls, one_core.proofs.Calls.made_more, one_core.proofs.Calls.replied}
use Rattle.one_core.proofs.machine.OneCoreMachine.call.Goals as goal

pub call-requires-clause-kernel : goal.call-requires-clause-kernel
call-requires-clause-kernel c = c.self.invariant.0

pub call-requires-clause-limits : goal.call-requires-clause-limits
call-requires-clause-limits c = c.requires.limits

pub invariant_of-self : goal.invariant_of-self
invariant_of-self c =
    let m = c.call.ensures.makes in (
      m.kernel ∙ c.self.invariant.0,
      m.core ∙ c.self.invariant.1,
      ap (λ (k : KernelValue). k.setup.cores) m.kernel ∙ c.self.invariant.2,
    )

pub returns-clause-setup : goal.returns-clause-setup
returns-clause-setup c = ap (λ (k : KernelValue). k.setup) c.call.ensures.makes.kernel
    ∙ ap (λ (s : CoreSeatValue). s.kernel.setup) c.self.view_is

pub returns-clause-made : goal.returns-clause-made
returns-clause-made c =
    made_more c.self.inside.seat c.call.new.seat c.args.call c.call.result c.self.invariant.1 c.call.ensures.makes
    ∙ ap (λ (s : CoreSeatValue). calls_of s.seen 0 ++ c.args.call ∷ []) c.self.view_is

pub returns-clause-reply : goal.returns-clause-reply
returns-clause-reply c =
    subst (λ (s : CoreSeatValue). c.call.result ≡ reply_to (after_calls s.kernel.setup (calls_of s.seen 0)) c.args.call) c.self.view_is
    (replied c.self.inside.seat c.call.new.seat c.args.call c.call.result c.self.invariant.1 c.self.invariant.2 c.call.ensures.makes
    c.call.ensures.seen)
