use Rattle.std.proofs.Common.{◌≡◌, ◌<◌, MatchOption, None, sym, ap, ◌∙◌, subst}
use Rattle.spk_nums.specs.WordSteps.{place_in}
use Rattle.turn_rule.specs.{MakesStep, Hands.seat_of}
use Rattle.turn_rule.proofs.Hands.{hand_due, held_on, hand_makes, held_follows, holds_of, some_match}
use Rattle.turn_rule.proofs.table.TurnTable.turn.Goals as goal

pub make_held-found-requires-clause-due : goal.make_held-found-requires-clause-due
make_held-found-requires-clause-due g c =
    let T = g.P.CoreProgram.steps in
    let seat = c.seat.inside in
    hand_due T c.args.self.now seat.hand seat.core seat.program None c.in-Some.op c.seat.invariant
    (ap (λ s. s.table) c.seat.view_is ∙ c.requires) tt (sym c.next_op.ensures.next ∙ c.in-Some.is)
    (holds_of c.next_op.result c.in-Some.op (λ op. place_in op < T.size seat.program) c.in-Some.is c.next_op.ensures.inside)

pub invariant_of-seat : goal.invariant_of-seat
invariant_of-seat g c =
    let seat = c.seat.inside in
    let make = c.make_held-found in
    held_on g.P.CoreProgram.steps seat.hand make.new.hand seat.core seat.program _ None c.in-Some.op
    make.result c.seat.invariant tt (sym c.next_op.ensures.next ∙ c.in-Some.is)
    make.ensures.goes c.absorb.ensures.after c.absorb.ensures.size

pub returns-in-Some-clause-step : goal.returns-in-Some-clause-step
returns-in-Some-clause-step g c =
    let T = g.P.CoreProgram.steps in
    let seat = c.seat.inside in
    let make = c.make_held-found in
    let made = seat_of make.new.hand seat.core c.absorb.new.self in
    subst (λ s. MatchOption (T.next s.program) (made ≡ s) (λ op. MakesStep T s None op made)) c.seat.view_is
    (some_match (T.next seat.program) c.in-Some.op _ (λ op. MakesStep T (seat_of seat.hand seat.core seat.program) None op made)
    (sym c.next_op.ensures.next ∙ c.in-Some.is)
    (hand_makes T seat.hand make.new.hand seat.core seat.program c.absorb.new.self None c.in-Some.op make.result c.seat.invariant
    make.ensures.goes c.absorb.ensures.after))

pub returns-in-Some-clause-follows : goal.returns-in-Some-clause-follows
returns-in-Some-clause-follows g c = held_follows g.P.CoreProgram.steps _ _ _ (invariant_of-seat g c)
