use Rattle.turn_rule.specs.OpenSeats.{begins_of}
use Rattle.turn_rule.proofs.whole.OpenSeatTurnWords.make.Given as goal

abbrev pub ghosts-make : goal.ghosts-make
ghosts-make g a = record { call = begins_of g.B.Began.began a.seat.now.me.0.own.seen; op = a.op }
