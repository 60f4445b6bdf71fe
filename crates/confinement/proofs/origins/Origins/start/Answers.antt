use Rattle.{std.proofs.Common.◌<◌, std.proofs.Common.sym, std.proofs.Common.subst, confinement.proofs.Standing.starts}
use Rattle.confinement.proofs.origins.Origins.start.Goals as goal

pub returns : goal.returns
returns c = starts c.args.setup.now c.in_ok-kernel.kernel c.in_ok-table.table c.in_ok-kernel.ensures
    (λ f i below small. c.in_ok-table.ensures f i (subst (λ n. f < n) (sym c.frames.ensures.value) below) small)
