use Rattle.std.proofs.Common.{ℕ, List, length, sym, ap, ◌∙◌, subst}
use Rattle.turn_rule.specs.{SeatValue, AreAllSeats}
use Rattle.{turn_tests.specs.declared.counter.Counter.Counter, turn_tests.proofs.Kept.all_go_on}
use Rattle.turn_tests.proofs.counting.count_in_two.Goals as goal

pub finish-requires-clause-seats : goal.finish-requires-clause-seats
finish-requires-clause-seats g c =
    let table = c.in_ok-table.table in
    let same = sym c.as_mut_slice.ensures.value in
    let all = subst (λ (l : List (SeatValue Counter ℕ)). AreAllSeats table l) same c.in_ok-table.ensures.seats in
    all_go_on table c.as_mut_slice.result.now c.count_all.new.seats _ _ all c.count_all.ensures (c.in_ok-table.seats.ok.0 ∙ ap length same)
