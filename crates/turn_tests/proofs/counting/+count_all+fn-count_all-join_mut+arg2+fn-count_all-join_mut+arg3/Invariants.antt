use Rattle.std.proofs.Common.{length}
use Rattle.turn_tests.proofs.counting.+count_all+fn-count_all-join_mut+arg2+fn-count_all-join_mut+arg3.Given as goal

abbrev pub decreases-join_mut+arg2 : goal.decreases-join_mut+arg2
decreases-join_mut+arg2 g l = length l.front.now

abbrev pub decreases-join_mut+arg3 : goal.decreases-join_mut+arg3
decreases-join_mut+arg3 g l = length l.back.now

abbrev pub decreases-count_all : goal.decreases-count_all
decreases-count_all g l = length l.seats.now
