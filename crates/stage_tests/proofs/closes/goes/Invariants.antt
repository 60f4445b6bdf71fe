use Rattle.stage_quiet.specs.Removal.{CloseFits}
use Rattle.stage_tests.proofs.closes.goes.Given as goal

abbrev pub invariant-rows : goal.invariant-rows
invariant-rows l = CloseFits l.layout l.close
