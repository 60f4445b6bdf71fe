use Rattle.call_judge.specs.same_changes.specs.kernel_laws.proofs.{subst, Returns}
use Rattle.confinement.specs.Known.{Known, Takes}
use Rattle.confinement.proofs.Standing.{returns as leaves, no_core}
use Rattle.confinement.proofs.origins.Origins.leave.Goals as goal

pub returns-then-not-has : goal.returns-then-not-has
returns-then-not-has c = no_core c.args.self.now (Returns c.args.core) c.if-not-has.ensures

pub returns : goal.returns
returns c =
    let o : Known = record { kernel = c.self.inside.kernel; table = c.self.inside.table; decided = c.self.inside.decided } in
    subst (λ (x : Known). Takes x (Returns c.args.core) (record o { kernel = c.leave.new.self })) c.self.view_is
    (leaves o c.leave.new.self c.args.core c.leave.ensures)
