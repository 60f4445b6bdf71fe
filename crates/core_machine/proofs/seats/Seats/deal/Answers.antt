use Rattle.{core_machine.specs.SeatsValue, core_machine.specs.IsDealt, std.proofs.Common.subst, std.proofs.Common.IfSome}
use Rattle.{std.specs.Arc.arc_value, core_kernel.specs.Kernel.CoreSeatValue, core_machine.proofs.Dealing.left_after}
use Rattle.{core_machine.proofs.Dealing.dealt_port}
use Rattle.core_machine.proofs.seats.Seats.deal.Goals as goal

pub invariant_of-self : goal.invariant_of-self
invariant_of-self c =
    let m = c.self.inside in
    let others = c.pop.new.self.items in
    let left = left_after (arc_value m.kernel) m.here.items others m.back.items c.pop.result c.pop.ensures.items c.self.invariant.1 in
    (c.self.invariant.0, left, c.self.invariant.2)

pub returns-clause-port : goal.returns-clause-port
returns-clause-port c =
    let m = c.self.inside in
    let port = dealt_port (arc_value m.kernel) m.setup m.here.items c.pop.new.self.items m.back.items c.pop.result c.self.invariant.0
    c.pop.ensures.items c.self.invariant.1 in
    subst (λ (v : SeatsValue). IfSome c.pop.result (λ (p : CoreSeatValue). IsDealt v p)) c.self.view_is port
