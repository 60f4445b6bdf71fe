use Rattle.{std.proofs.Common.◌≤◌, std.proofs.Common.length, std.proofs.Common.vec_capacity, core_kernel.specs.Turns.AreWrapped}
use Rattle.core_kernel.proofs.ends.turn_seats_of.Given as goal

abbrev pub invariant-loop-one : goal.invariant-loop-one
invariant-loop-one l = AreWrapped l.setup l.turn_seats.items l.yielded × (length l.fn.seats.items ≤ vec_capacity l.turn_seats)
