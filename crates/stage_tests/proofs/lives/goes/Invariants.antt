use Rattle.stage_thread.specs.Living.{AliveFits}
use Rattle.stage_tests.proofs.lives.goes.Given as goal

abbrev pub invariant-rows : goal.invariant-rows
invariant-rows l = AliveFits l.layout l.alive
