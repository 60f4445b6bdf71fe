use Rattle.std.proofs.Common.{rules, ◌∙◌, ◌++◌, [], ◌∷◌, length, refl, sym, map-id}
use Rattle.std.proofs.{lemmas.Option.slice_get_read, lemmas.Iterator.Consumers.YieldsList-turn, lemmas.Iterator.Consumers.YieldsList-end}
use Rattle.std.proofs.{lemmas.Iterator.Adapters.YieldsList-from_vec}
use Rattle.end_ports.proofs.seats.ends_of.Goals as goal

pub new-requires-clause-table : goal.new-requires-clause-table
new-requires-clause-table c =
    let turn = YieldsList-turn (YieldsList-from_vec {s = c.into_iter-seat-iterator.result} c.args.seats.items (search rules)
    (search rules)) c.loop-seat.yielded c.loop-seat.seat-iterator c.loop-seat.yielded_by c.next.result c.next.new.self
    c.in-Some.seat c.in-Some.is c.next.ensures.steps in
    let here = slice_get_read c.args.seats.items (length c.args.seats.items) (length c.loop-seat.yielded) c.in-Some.seat refl turn.0 turn.1 in
    c.requires.seats.table _ _ here ∙ search rules

pub loop-seat-preserved : goal.loop-seat-preserved
loop-seat-preserved c =
    c.in_ok-push.ensures.items ∙ (λ j. c.loop-seat.invariant j ++ c.new.ensures j ∷ [])

pub returns : goal.returns
returns c =
    let end = YieldsList-end (YieldsList-from_vec {s = c.into_iter-seat-iterator.result} c.args.seats.items (search rules)
    (search rules)) c.loop-seat.yielded c.loop-seat.seat-iterator c.loop-seat.yielded_by c.next.result c.next.new.self c.in-None.is
    c.next.ensures.steps in
    c.loop-seat.invariant ∙ sym (map-id c.loop-seat.yielded) ∙ end.0
