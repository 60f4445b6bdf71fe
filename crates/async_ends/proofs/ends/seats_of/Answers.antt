use Rattle.std.proofs.Common.{rules, ◌∙◌, ◌++◌, [], ◌∷◌, length, map, ap, sym, subst, map-id}
use Rattle.async_ends.specs.{seat_value, IsSeat}
use Rattle.std.proofs.{lemmas.List.map-append, lemmas.List.Elements.All-get_or, lemmas.Iterator.Consumers.YieldsList-turn}
use Rattle.std.proofs.{lemmas.Iterator.Consumers.YieldsList-end, lemmas.Iterator.Adapters.YieldsList-from_vec}
use Rattle.async_ends.proofs.ends.seats_of.Goals as goal

pub loop-seat-init : goal.loop-seat-init
loop-seat-init c = c.in_ok-seats.ensures.items

pub invariant_of-push : goal.invariant_of-push
invariant_of-push c =
    let turn = YieldsList-turn (YieldsList-from_vec {s = c.into_iter-seat-iterator.result} c.args.turn_seats.items (search rules)
    (search rules)) c.loop-seat.yielded c.loop-seat.seat-iterator c.loop-seat.yielded_by c.next.result c.next.new.self
    c.in-Some.seat c.in-Some.is c.next.ensures.steps in
    subst (IsSeat c.args.frames c.args.cores 0) (sym turn.1) (All-get_or (IsSeat c.args.frames c.args.cores 0) c.args.turn_seats.items
    (length c.loop-seat.yielded) c.in-Some.seat turn.0 c.requires)

pub loop-seat-preserved : goal.loop-seat-preserved
loop-seat-preserved c =
    let f = seat_value c.args.frames c.args.cores 0 in
    c.in_ok-push.ensures.items ∙ ap (λ l. l ++ f c.in-Some.seat ∷ []) c.loop-seat.invariant
    ∙ sym (map-append f c.loop-seat.yielded (c.in-Some.seat ∷ []))

pub returns : goal.returns
returns c =
    let end = YieldsList-end (YieldsList-from_vec {s = c.into_iter-seat-iterator.result} c.args.turn_seats.items (search rules)
    (search rules)) c.loop-seat.yielded c.loop-seat.seat-iterator c.loop-seat.yielded_by c.next.result c.next.new.self c.in-None.is
    c.next.ensures.steps in
    c.loop-seat.invariant ∙ ap (map (seat_value c.args.frames c.args.cores 0)) (sym (map-id c.loop-seat.yielded) ∙ end.0)
