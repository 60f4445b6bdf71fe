use Rattle.{turn_tests.specs.counter_steps, turn_tests.specs.GoesOn, std.proofs.Common.IsNone}
use Rattle.turn_tests.proofs.counting.count_many.Given as goal

abbrev pub invariant-loop : goal.invariant-loop
invariant-loop l = IsNone (counter_steps.next l.seat.program) × GoesOn l.initial.seat l.seat
