use Rattle.async_ends.specs.Tables.{AreWrapped}
use Rattle.async_ends.proofs.ends.turn_seats_of.Given as goal

abbrev pub invariant-loop-one : goal.invariant-loop-one
invariant-loop-one l = AreWrapped l.turn_seats.items l.yielded
