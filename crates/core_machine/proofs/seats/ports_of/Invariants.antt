use Rattle.{std.specs.Prelude.vec_len, std.specs.Arc.arc_value, core_machine.proofs.Dealing.AreTurned}
use Rattle.core_machine.proofs.seats.ports_of.Given as goal

abbrev pub invariant-each : goal.invariant-each
invariant-each l = AreTurned (arc_value l.kernel) l.seats.items l.ports.items

abbrev pub decreases-each : goal.decreases-each
decreases-each l = vec_len l.seats
