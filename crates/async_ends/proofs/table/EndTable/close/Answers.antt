use Rattle.{std.proofs.Common.sym, std.proofs.Common.subst, async_ends.specs.Tables.AreAllSeats, async_ends.specs.Tables.EndsAt}
use Rattle.{async_ends.proofs.Closing.all_unwrapped, async_ends.proofs.Closing.ends_at}
use Rattle.async_ends.proofs.table.EndTable.close.Goals as goal

pub close-requires : goal.close-requires
close-requires c =
    let t = c.self.inside in
    let all = subst (λ k. AreAllSeats k c.args.seats.items) (sym c.self.view_is) c.requires in
    all_unwrapped t.frames t.cores t.table c.self.invariant c.in_ok-turn_seats.turn_seats.items c.args.seats.items
    c.in_ok-turn_seats.ensures all

pub returns : goal.returns
returns c =
    let t = c.self.inside in
    let all = subst (λ k. AreAllSeats k c.args.seats.items) (sym c.self.view_is) c.requires in
    subst (λ k. EndsAt k c.args.seats.items c.in_ok-counts.counts.items) c.self.view_is
    (ends_at t.frames t.cores t.table c.self.invariant c.in_ok-turn_seats.turn_seats.items c.args.seats.items
    c.in_ok-turn_seats.ensures all c.in_ok-counts.counts.items c.in_ok-counts._programs.items c.in_ok-counts.ensures)
