use Rattle.std.specs.Prelude.{None}
use Rattle.turn_rule.proofs.table.TurnTable.turn.Given as goal

abbrev pub ghosts-make_held : goal.ghosts-make_held
ghosts-make_held g a = record { call = None; op = a.op }
