use Rattle.fixed_prio.specs.plain_kernel.specs.kernel_laws.proofs.{[], ◌<◌, ◌∙◌, sym, subst, arith, length, All, InLimits}
use Rattle.fixed_prio.specs.{after_calls, Beside}
use Rattle.sched_run.proofs.Making.{begun_beside, limits_0, runs_fit}
use Rattle.{fixed_prio.specs.sched_rules.specs.Schedule.TaskFits, sched_text.specs.Fitting.RunsFit}
use Rattle.sched_run.proofs.run.make.Goals as goal

pub make_calls-requires-clause-beside : goal.make_calls-requires-clause-beside
make_calls-requires-clause-beside g c =
    let setup = c.args.input.now.script.setup in
    subst (λ s. Beside s (g.M.Machine.made c.args.m.now) c.in_ok-kernel.kernel) (sym c.requires.setup)
    (subst (λ l. Beside setup l c.in_ok-kernel.kernel) (sym c.requires.fresh)
    (begun_beside setup c.in_ok-kernel.kernel c.cores-limits.ensures.limits c.requires.input.one_core c.in_ok-kernel.ensures))

pub make_calls-requires-clause-limits : goal.make_calls-requires-clause-limits
make_calls-requires-clause-limits g c =
    let lists = c.args.input.now.script.lists.items in
    let some : 0 < length lists = (let n = c.requires.input.script.lists in let one = c.requires.input.one_core in omega (arith, n, one)) in
    subst (All InLimits) (sym c.as_slice.ensures.value)
    (limits_0 lists c.index.result.now some c.index.ensures c.requires.input.script.limits)

pub schedule_text-requires-clause-fit : goal.schedule_text-requires-clause-fit
schedule_text-requires-clause-fit g c =
    let h = c.in_ok-turns.ensures.turns in
    let fit : RunsFit c.in_ok-turns.turns.items c.deref.result.now =
    runs_fit c.args.input.now.rule (after_calls (g.M.Machine.setup c.make_calls.new.m) (g.M.Machine.made c.make_calls.new.m))
    c.deref.result.now h.steps c.in_ok-turns.turns.items h.schedule h.turns
    (subst (All TaskFits) (sym c.deref.ensures.value) c.requires.input.tasks) in
    subst (λ l. RunsFit l c.deref-3.result.now) (sym c.deref-2.ensures.value)
    (subst (RunsFit c.in_ok-turns.turns.items) (c.deref.ensures.value ∙ sym c.deref-3.ensures.value) fit)
