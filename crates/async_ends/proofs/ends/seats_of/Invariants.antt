use Rattle.{std.proofs.Common.◌≡◌, std.proofs.Common.map, async_ends.specs.Tables.seat_value}
use Rattle.async_ends.proofs.ends.seats_of.Given as goal

abbrev pub invariant-loop-seat : goal.invariant-loop-seat
invariant-loop-seat l = l.seats.items ≡ map (seat_value l.frames l.cores 0) l.yielded
