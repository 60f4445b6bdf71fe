use Rattle.lone_kernel.specs.flight.proofs.{◌∙◌, sym, subst, refl, false≢true, IsSetting}
use Rattle.lone_kernel.specs.{IsFinished, IsDone}
use Rattle.{lone_kernel.proofs.Advance.stays_idle, told_run.proofs.Steps.nothing_done}
use Rattle.told_run.proofs.moves.move_told.Goals as goal

pub returns-then-is_finished-clause-goes : goal.returns-then-is_finished-clause-goes
returns-then-is_finished-clause-goes g c =
    let setting : IsSetting c.args.kernel.now.setup = subst IsSetting c.setup.ensures c.cores-cores.ensures.limits in
    let idle = stays_idle c.args.kernel.now c.args.core setting c.requires (c.is_finished.ensures.0 c.if-is_finished.true) in
    record { same = refl; idle = idle.idle }

pub returns-else-not-is_done-clause-goes : goal.returns-else-not-is_done-clause-goes
returns-else-not-is_done-clause-goes g c =
    let setting : IsSetting c.args.kernel.now.setup = subst IsSetting c.setup.ensures c.cores-cores.ensures.limits in
    let begins : IsFinished c.args.kernel.now c.args.core
    → ⊥ = λ h. false≢true (sym c.if-is_finished.false ∙ c.is_finished.ensures.1 h) in
    nothing_done g.W.Watcher.has_seen c.args.how record { machine = c.args.kernel.now; watcher = c.args.watcher.now } c.args.core setting c.requires begins
    (c.is_done.ensures.0 c.if-not-is_done.false)

pub returns-else-not-is_done-clause-fewer : goal.returns-else-not-is_done-clause-fewer
returns-else-not-is_done-clause-fewer g c return begins =
    absurd (subst (λ h. IsDone h c.args.kernel.now c.args.core) return (c.is_done.ensures.0 c.if-not-is_done.false))
