use Rattle.std.proofs.Common.{◌<◌, Some, IsSomeAnd, sym, ap, ◌∙◌, subst}
use Rattle.spk_nums.specs.WordSteps.{place_in}
use Rattle.turn_rule.specs.{MayCall, MakesStep, SeatValue, Hands.seat_of}
use Rattle.turn_rule.proofs.Hands.{hand_due, held_on, hand_makes, held_follows, holds_of, some_and}
use Rattle.turn_rule.proofs.table.TurnTable.first.Goals as goal

pub make_first-found-requires-clause-due : goal.make_first-found-requires-clause-due
make_first-found-requires-clause-due g c =
    let T = g.P.CoreProgram.steps in
    let seat = c.seat.inside in
    let said = c.of-said.ensures in
    let op = c.unwrap-op.result in
    let program = ap (λ z. z.program) c.seat.view_is in
    let begun = c.begin.ensures.begun ∙ ap (λ (x : g.row.P-Call.Denot). T.begun seat.program x) (sym said) in
    let may : MayCall T seat.program (Some c.of-said.result.value) =
    subst (λ (z : g.row.P.Denot × g.row.P-Call.Denot). MayCall T z.0 (Some z.1)) (λ i. (sym program i, sym said i))
    (c.requires.idle, c.requires.fit) in
    hand_due T c.args.self.now seat.hand seat.core seat.program (Some c.of-said.result.value) op c.seat.invariant
    (ap (λ s. s.table) c.seat.view_is ∙ c.requires.table) may
    (ap T.next (sym begun) ∙ sym c.next_op.ensures.next ∙ c.unwrap-op.ensures)
    (subst (λ n. place_in op < n) c.begin.ensures.size
    (holds_of c.next_op.result op (λ op. place_in op < T.size c.begin.new.self) c.unwrap-op.ensures c.next_op.ensures.inside))

pub invariant_of-seat : goal.invariant_of-seat
invariant_of-seat g c =
    let T = g.P.CoreProgram.steps in
    let seat = c.seat.inside in
    let make = c.make_first-found in
    let said = c.of-said.ensures in
    let program = ap (λ z. z.program) c.seat.view_is in
    let begun = c.begin.ensures.begun ∙ ap (λ (x : g.row.P-Call.Denot). T.begun seat.program x) (sym said) in
    let may : MayCall T seat.program (Some c.of-said.result.value) =
    subst (λ (z : g.row.P.Denot × g.row.P-Call.Denot). MayCall T z.0 (Some z.1)) (λ i. (sym program i, sym said i))
    (c.requires.idle, c.requires.fit) in
    held_on T seat.hand make.new.hand seat.core seat.program _
    (Some c.of-said.result.value) c.unwrap-op.result make.result c.seat.invariant may
    (ap T.next (sym begun) ∙ sym c.next_op.ensures.next ∙ c.unwrap-op.ensures) make.ensures.goes
    (c.absorb.ensures.after ∙ ap (λ (q : g.row.P.Denot). T.after q make.result) begun)
    (c.absorb.ensures.size ∙ c.begin.ensures.size)

pub returns-clause-step : goal.returns-clause-step
returns-clause-step g c =
    let T = g.P.CoreProgram.steps in
    let seat = c.seat.inside in
    let make = c.make_first-found in
    let said = c.of-said.ensures in
    let op = c.unwrap-op.result in
    let made = seat_of make.new.hand seat.core c.absorb.new.self in
    let begun = c.begin.ensures.begun ∙ ap (λ (x : g.row.P-Call.Denot). T.begun seat.program x) (sym said) in
    subst (λ (z : SeatValue g.row.P.Denot g.row.P-Call.Denot × g.row.P-Call.Denot).
    IsSomeAnd (T.next (T.begun z.0.program z.1)) (λ op. MakesStep T z.0 (Some z.1) op made)) (λ i. (c.seat.view_is i, said i))
    (some_and (T.next (T.begun seat.program c.of-said.result.value)) op
    (λ op. MakesStep T (seat_of seat.hand seat.core seat.program) (Some c.of-said.result.value) op made)
    (ap T.next (sym begun) ∙ sym c.next_op.ensures.next ∙ c.unwrap-op.ensures)
    (hand_makes T seat.hand make.new.hand seat.core seat.program c.absorb.new.self (Some c.of-said.result.value) op make.result
    c.seat.invariant make.ensures.goes (c.absorb.ensures.after ∙ ap (λ (q : g.row.P.Denot). T.after q make.result) begun)))

pub returns-clause-follows : goal.returns-clause-follows
returns-clause-follows g c = held_follows g.P.CoreProgram.steps _ _ _ (invariant_of-seat g c)
