use Rattle.std.proofs.Common.{suc, refl, sym, subst, ◌∙◌}
use Rattle.turn_rule.specs.Seats.{MakesCall}
use Rattle.turn_rule.proofs.Calls.{first_turns, later_turns, no_turn, one_more}
use Rattle.turn_rule.proofs.table.TurnTable.call.Goals as goal

pub loop-init : goal.loop-init
loop-init g c = let T = g.P.CoreProgram.steps in
    let turn = first_turns T c.args.seat.now c.first.new.seat c.args.call c.first.ensures.step c.first.ensures.follows in record {
      table = turn.makes.table ∙ c.requires.table;
      begun = c.first.new.seat;
      first = turn;
      count = 0;
      rest = refl;
      follows = c.first.ensures.follows;
    }

pub loop-preserved : goal.loop-preserved
loop-preserved g c = let T = g.P.CoreProgram.steps in
    let i = c.loop.invariant in
    let turn = later_turns T c.loop.seat c.turn.new.seat (c.turn.ensures.some.0 c.loop-test.true) c.turn.ensures.step
    c.turn.ensures.follows in record {
      table = turn.makes.table ∙ i.table;
      begun = i.begun;
      first = i.first;
      count = suc i.count;
      rest = one_more T i.count i.begun c.loop.seat c.turn.new.seat i.rest turn;
      follows = c.turn.ensures.follows;
    }

pub returns-clause-makes : goal.returns-clause-makes
returns-clause-makes g c = let T = g.P.CoreProgram.steps in
    let i = c.loop.invariant in
    let end = no_turn T c.loop.seat c.turn.new.seat c.turn.result c.loop-test.false c.turn.ensures.some c.turn.ensures.step in
    subst (λ s. MakesCall T c.args.seat.now c.args.call s) (sym end.0)
    record { begun = i.begun; first = i.first; count = i.count; rest = i.rest; idle = end.1 }
