use Rattle.{std.proofs.Common.◌*◌, turn_tests.specs.Taking.HasTaken}
use Rattle.turn_tests.proofs.taking.take_often.Given as goal

abbrev pub invariant-loop : goal.invariant-loop
invariant-loop l = HasTaken l.initial.seat (l.counter * l.count) l.seat
