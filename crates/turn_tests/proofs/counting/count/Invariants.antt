use Rattle.std.proofs.Common.{◌+◌, ◌≤◌, ℕ, [], ◌∷◌}
use Rattle.turn_tests.specs.{Counter.steps_left, Counting.Makes}
use Rattle.turn_tests.proofs.counting.count.Given as goal

abbrev pub invariant-loop : goal.invariant-loop
invariant-loop l = (n : ℕ) × Makes l.fn.seat (l.fn.tries ∷ []) n l.seat × (n + steps_left l.seat.program.stage ≤ l.fn.tries + 2)

abbrev pub decreases-loop : goal.decreases-loop
decreases-loop l = steps_left l.seat.program.stage
