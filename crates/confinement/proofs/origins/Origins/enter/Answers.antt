use Rattle.call_judge.specs.same_changes.specs.kernel_laws.proofs.{subst, Enters}
use Rattle.confinement.specs.Known.{Known, Takes}
use Rattle.confinement.proofs.Standing.{enters, no_core}
use Rattle.confinement.proofs.origins.Origins.enter.Goals as goal

pub returns-then-not-has : goal.returns-then-not-has
returns-then-not-has c = λ call. no_core c.args.self.now (Enters c.args.core call) c.if-not-has.ensures

pub returns : goal.returns
returns c = λ call.
    let o : Known = record { kernel = c.self.inside.kernel; table = c.self.inside.table; decided = c.self.inside.decided } in
    subst (λ (x : Known). Takes x (Enters c.args.core call) (record o { kernel = c.enter.new.self })) c.self.view_is
    (enters o c.enter.new.self c.args.core call c.enter.ensures)
