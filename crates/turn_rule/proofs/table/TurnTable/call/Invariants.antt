use Rattle.turn_rule.specs.{SeatValue, FollowsTrace, Turns, TurnsOn}
use Rattle.std.proofs.Common.{◌≡◌, ℕ, Some}
use Rattle.turn_rule.proofs.table.TurnTable.call.Given as goal

abbrev pub invariant-loop : goal.invariant-loop
invariant-loop g l = let T = g.P.CoreProgram.steps in record {
  table : l.seat.table ≡ l.fn.self;
  begun : SeatValue g.row.P.Denot g.row.P-Call.Denot;
  first : Turns T l.fn.seat (Some l.fn.call) begun;
  count : ℕ;
  rest : TurnsOn T count begun l.seat;
  follows : FollowsTrace T l.seat;
}

abbrev pub decreases-loop : goal.decreases-loop
decreases-loop g l = g.P.CoreProgram.steps.left l.seat.program
