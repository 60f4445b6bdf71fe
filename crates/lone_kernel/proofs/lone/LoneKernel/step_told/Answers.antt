use Rattle.flight_laws.specs.flight.proofs.{ap, subst, IsSetting}
use Rattle.{lone_kernel.specs.Machine.IsFit, lone_kernel.proofs.Advance.stays_idle, lone_kernel.proofs.Shown.tells_step}
use Rattle.lone_kernel.proofs.lone.LoneKernel.step_told.Goals as goal

pub returns-clause-tells : goal.returns-clause-tells
returns-clause-tells c =
    let fit : IsFit c.args.self.now = subst IsFit c.self.view_is c.self.invariant.0 in
    let setting : IsSetting c.args.self.now.setup = subst IsSetting (ap (λ m. m.setup) c.self.view_is) c.self.invariant.2 in
    tells_step c.args.self.now fit setting c.args.core c.requires c.advance-view.new.self c.advance-view.result.view
    c.advance-view.result.told c.decided.result c.returned.result c.advance-view.ensures.shows c.advance-view.ensures.steps
    c.decided.ensures c.returned.ensures

pub returns-then-is_finished-clause-tells : goal.returns-then-is_finished-clause-tells
returns-then-is_finished-clause-tells c =
    let setting : IsSetting c.args.self.now.setup = subst IsSetting (ap (λ m. m.setup) c.self.view_is) c.self.invariant.2 in
    stays_idle c.args.self.now c.args.core setting c.requires (c.is_finished.ensures.0 c.if-is_finished.true)
