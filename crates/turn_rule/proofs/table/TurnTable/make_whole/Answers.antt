use Rattle.std.proofs.Common.{Some, sym, ap, ◌∙◌, subst}
use Rattle.turn_rule.specs.{Seats.MakesCall, Hands.seat_of, OpenSeats.OpenValue, OpenSeats.began_at, OpenSeats.going}
use Rattle.turn_rule.proofs.OpenSeats.{closes}
use Rattle.turn_rule.proofs.table.TurnTable.make_whole.Goals as goal

pub returns-clause-makes : goal.returns-clause-makes
returns-clause-makes g c =
    let T = g.P.CoreProgram.steps in
    let b = g.B.Began.began in
    let w = c.words.inside in
    let made = c.whole-words.new.self in
    let ran = c.whole-words.ensures.same
    ∙ ap (λ (o : OpenValue g.row.P.Denot g.row.P-Call.Denot). going T o.seat o.call o.seen) (sym c.words.view_is) in
    let closed = closes T b w.hand (began_at b w.table.now w.before.value) c.args.seat.now w.said.value c.args.call made c.words.invariant
    c.requires.began c.requires.begins ran c.whole-words.ensures.idle in
    subst (λ n. MakesCall T c.args.seat.now c.args.call (seat_of (Some w.hand) n made)) (sym (ap (λ z. z.core) c.seat.view_is)) closed.0
