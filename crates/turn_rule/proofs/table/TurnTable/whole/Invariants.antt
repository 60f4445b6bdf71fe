use Rattle.std.specs.Prelude.{Some}
use Rattle.turn_rule.proofs.table.TurnTable.whole.Given as goal

abbrev pub ghosts-make_whole : goal.ghosts-make_whole
ghosts-make_whole g a = record { began = Some (a.seat.now, a.call) }
