use Rattle.std.proofs.Common.{◌≡◌, take, sum_by}
use Rattle.lone_kernel.proofs.lone.count_due.Given as goal

abbrev pub invariant-loop-seat : goal.invariant-loop-seat
invariant-loop-seat l = l.due ≡ sum_by (λ seat. seat.due) (take l.seat-index l.seats)
