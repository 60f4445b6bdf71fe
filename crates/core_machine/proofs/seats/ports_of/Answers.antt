use Rattle.std.proofs.Common.{◌∙◌, ◌++◌, [], ◌∷◌, ap}
use Rattle.{std.specs.Arc.arc_value, core_kernel.specs.Kernel.CoreSeatValue, core_machine.proofs.Dealing.turned_on}
use Rattle.core_machine.proofs.seats.ports_of.Goals as goal

pub each-preserved : goal.each-preserved
each-preserved c = turned_on (arc_value c.args.kernel.now) c.each.seats.items c.pop.new.self.items c.each.ports.items c.push.new.self.items
    c.in-Some.seat c.in-Some.ensures.items
    (c.in_ok-push.ensures.items ∙ ap (λ (s : CoreSeatValue). c.each.ports.items ++ s ∷ []) c.new.ensures) c.each.invariant
