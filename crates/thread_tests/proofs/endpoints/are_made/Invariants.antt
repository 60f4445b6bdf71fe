use Rattle.std.proofs.Common.{◌≡◌}
use Rattle.thread_tests.proofs.endpoints.are_made.Given as goal

abbrev pub invariant-loop-call : goal.invariant-loop-call
invariant-loop-call l = l.seat.kernel ≡ l.initial.seat.kernel
