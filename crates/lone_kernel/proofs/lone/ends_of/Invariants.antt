use Rattle.flight_laws.specs.core_invariant.specs.{◌≡◌, map, take, end_of}
use Rattle.lone_kernel.proofs.lone.ends_of.Given as goal

abbrev pub invariant-loop-seat : goal.invariant-loop-seat
invariant-loop-seat l = l.ends.items ≡ map (λ seat. end_of seat.state) (take l.seat-index l.seats)
