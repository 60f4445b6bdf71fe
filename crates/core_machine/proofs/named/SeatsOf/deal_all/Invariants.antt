use Rattle.{std.proofs.Common.◌-◌, std.proofs.Common.length, std.proofs.Common.vec_capacity, core_machine.proofs.Dealing.AreFirst}
use Rattle.core_machine.proofs.named.SeatsOf.deal_all.Given as goal

abbrev pub invariant-cores : goal.invariant-cores
invariant-cores g l = AreFirst (λ p. p.port) l.fn.self.seats l.self.seats (vec_capacity l.ports) l.ports.items

abbrev pub decreases-cores : goal.decreases-cores
decreases-cores g l = vec_capacity l.ports - length l.ports.items
