use Rattle.{std.proofs.Common.ap, turn_tests.proofs.Tickets.takes_from}
use Rattle.turn_tests.proofs.taking.take.Goals as goal

pub returns-clause-takes : goal.returns-clause-takes
returns-clause-takes c =
    let first = c.first.ensures in
    let stored = c.turn-stored.ensures in
    let loaded = c.turn-loaded.ensures in
    takes_from c.args.table.now.start c.requires.start c.args.seat.now c.first.new.seat c.turn-stored.new.seat c.turn-loaded.new.seat
    c.args.count c.program.result.now.last (ap (λ t. t.start) c.requires.table)
    first.step first.follows stored.step stored.follows loaded.step loaded.follows (ap (λ p. p.last) c.program.ensures.program)
