use Rattle.std.proofs.Common.{◌≡◌}
use Rattle.end_ports.proofs.seats.ends_of.Given as goal

abbrev pub invariant-loop-seat : goal.invariant-loop-seat
invariant-loop-seat l = l.ends.items ≡ l.yielded
