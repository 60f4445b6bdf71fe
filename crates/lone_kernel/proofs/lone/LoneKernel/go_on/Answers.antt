use Rattle.flight_laws.specs.flight.proofs.{◌∙◌, sym, subst, ap, false≢true, IsSetting}
use Rattle.{lone_kernel.specs.Machine.IsFinished, lone_kernel.proofs.Advance.stays_idle, lone_kernel.proofs.Runs.nothing_done}
use Rattle.lone_kernel.proofs.lone.LoneKernel.go_on.Goals as goal

pub returns-then-is_finished-clause-goes : goal.returns-then-is_finished-clause-goes
returns-then-is_finished-clause-goes c =
    let setting : IsSetting c.args.self.now.setup = subst IsSetting (ap (λ m. m.setup) c.self.view_is) c.self.invariant.2 in
    stays_idle c.args.self.now c.args.core setting c.requires (c.is_finished.ensures.0 c.if-is_finished.true)

pub returns-else-not-is_done-clause-goes : goal.returns-else-not-is_done-clause-goes
returns-else-not-is_done-clause-goes c =
    let setting : IsSetting c.args.self.now.setup = subst IsSetting (ap (λ m. m.setup) c.self.view_is) c.self.invariant.2 in
    let begins : IsFinished c.args.self.now c.args.core → ⊥ = λ h. false≢true (sym c.if-is_finished.false ∙ c.is_finished.ensures.1 h) in
    nothing_done c.args.how c.args.self.now c.args.core setting c.requires begins (c.is_done.ensures.0 c.if-not-is_done.false)
