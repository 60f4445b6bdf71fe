use Rattle.async_ends.specs.{IsLegal, receiving, history_of}
use Rattle.std.proofs.Common.{◌≡◌, None, subst}
use Rattle.async_ends.proofs.{Histories.all_crossed, Made.legal, Made.between}
use Rattle.async_ends.proofs.seat.EndSeat.made.Goals as goal

pub returns-clause-legal : goal.returns-clause-legal
returns-clause-legal c =
    let s = c.self.inside in
    subst (λ z. IsLegal (history_of z.seen)) c.self.view_is (legal s.frames s.cores s.made s.seat c.self.invariant)

pub returns-clause-crossed : goal.returns-clause-crossed
returns-clause-crossed c = all_crossed (history_of c.args.self.now.seen) (returns-clause-legal c)

pub returns-clause-between : goal.returns-clause-between
returns-clause-between c =
    let s = c.self.inside in
    subst (λ z. receiving (history_of z.seen) z.core ≡ None) c.self.view_is (between s.frames s.cores s.made s.seat c.self.invariant)
