use Rattle.{std.proofs.Common.◌≡◌, std.proofs.Common.map, core_kernel.specs.Kernel.seat_value}
use Rattle.core_kernel.proofs.ends.seats_of.Given as goal

abbrev pub invariant-loop-seat : goal.invariant-loop-seat
invariant-loop-seat l = l.seats.items ≡ map (seat_value l.setup) l.yielded
