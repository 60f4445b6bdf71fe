use Rattle.core_machine.specs.core_kernel.specs.flight_laws.specs.flight.proofs.{◌≡◌, ◌∙◌, ap, sym, Setting}
use Rattle.{std.specs.Arc.arc_value, end_ports.proofs.Dealt.all_ends}
use Rattle.end_ports.proofs.seats.EndSeats.boot.Goals as goal

pub invariant_of-result : goal.invariant_of-result
invariant_of-result c =
    let seats = c.in_ok-seats.seats in
    let table = c.in_ok-table.table in
    let t = c.in_ok-table.ensures in
    let count : table.cores ≡ seats.kernel.setup.cores = t.cores ∙ c.cores.ensures.value
    ∙ sym (ap (λ (s : Setting). s.cores) c.in_ok-seats.ensures.setup) in
    all_ends (arc_value c.in-Ok.table) table seats.kernel.setup.cores seats.dealt c.in_ok-table.end_seats.items c.in_ok-here.here.items
    c.in-Ok.ensures.ok c.in_ok-seats.ensures.dealt t.frames count t.seats t.fresh c.in_ok-here.ensures
