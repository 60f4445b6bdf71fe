use Rattle.flight_laws.specs.flight.proofs.{sym, ap, subst, ◌≡◌, None, IfSome, IsSetting, Trace}
use Rattle.lone_kernel.specs.{core_at, IsFit, StandsFor}
use Rattle.lone_kernel.proofs.Inside.{between_only, steps_of, below_bound}
use Rattle.{std.proofs.Common.◌↔◌, boot_words.specs.kernel_history.specs.Trace.steps_in_call, lone_kernel.specs.Inside.IsBelowBound}
use Rattle.lone_kernel.proofs.lone.LoneKernel.inside.Goals as goal

pub returns-clause-none : goal.returns-clause-none
returns-clause-none c = let active = (core_at c.args.self.now c.args.core).active in
    subst (λ o. (o ≡ None) ↔ (active ≡ None)) (sym c.steps_made.ensures) (between_only active)

pub returns-clause-steps : goal.returns-clause-steps
returns-clause-steps c =
    let setting : IsSetting c.args.self.now.setup = subst IsSetting (ap (λ m. m.setup) c.self.view_is) c.self.invariant.2 in
    subst (λ o. IfSome o (λ k. (t : Trace) → StandsFor c.args.self.now t → k ≡ steps_in_call t c.args.core)) (sym c.steps_made.ensures)
    (steps_of c.args.self.now setting c.args.core c.requires)

pub returns-clause-below : goal.returns-clause-below
returns-clause-below c =
    let m = c.args.self.now in
    let fit : IsFit m = subst IsFit c.self.view_is c.self.invariant.0 in
    subst (λ o. IfSome o (IsBelowBound m.setup.cores (core_at m c.args.core).active)) (sym c.steps_made.ensures)
    (below_bound m fit c.args.core c.requires)
