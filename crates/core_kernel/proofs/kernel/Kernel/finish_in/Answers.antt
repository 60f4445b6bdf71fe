use Rattle.flight_laws.specs.flight.proofs.{◌≡◌, ◌∙◌, None, All, map, ap, sym, subst, end_of}
use Rattle.core_kernel.specs.{AreAllSeats, EndsAt}
use Rattle.core_kernel.proofs.Closing.{all_unwrapped, ended_between, ends_at}
use Rattle.core_kernel.proofs.kernel.Kernel.finish_in.Goals as goal

pub close_in-closed-requires-clause-seats : goal.close_in-closed-requires-clause-seats
close_in-closed-requires-clause-seats c =
    let all = subst (λ k. AreAllSeats k c.args.seats.items) (sym c.self.view_is) c.requires.seats in
    all_unwrapped c.self.inside.setup c.self.inside.table c.self.invariant c.turn_seats_of-given.result.items c.args.seats.items
    c.turn_seats_of-given.ensures all

pub ends_of-ends-requires-clause-between : goal.ends_of-ends-requires-clause-between
ends_of-ends-requires-clause-between c =
    let all = subst (λ k. AreAllSeats k c.args.seats.items) (sym c.self.view_is) c.requires.seats in
    subst (All (λ p. p.state.active ≡ None)) (sym c.deref.ensures.value)
    (ended_between c.self.inside.setup c.self.inside.table c.self.invariant c.turn_seats_of-given.result.items c.args.seats.items
    c.turn_seats_of-given.ensures all
    c.close_in-closed.result.0.items c.close_in-closed.result.1.items c.close_in-closed.ensures)

pub returns-clause-ends : goal.returns-clause-ends
returns-clause-ends c =
    let all = subst (λ k. AreAllSeats k c.args.seats.items) (sym c.self.view_is) c.requires.seats in
    subst (λ k. EndsAt k c.args.seats.items c.close_in-closed.result.0.items c.ends_of-ends.result.items) c.self.view_is
    (ends_at c.self.inside.setup c.self.inside.table c.self.invariant c.turn_seats_of-given.result.items c.args.seats.items
    c.turn_seats_of-given.ensures all
    c.close_in-closed.result.0.items c.close_in-closed.result.1.items c.close_in-closed.ensures c.ends_of-ends.result.items
    (c.ends_of-ends.ensures ∙ ap (map (λ p. end_of p.state)) c.deref.ensures.value))
