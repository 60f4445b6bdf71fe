use Rattle.std.specs.Prelude.{Some}
use Rattle.turn_rule.proofs.table.TurnTable.first.Given as goal

abbrev pub ghosts-make_first : goal.ghosts-make_first
ghosts-make_first g a = record { call = Some a.said.now.value; op = a.op }
