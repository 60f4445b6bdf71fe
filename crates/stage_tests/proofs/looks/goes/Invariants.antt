use Rattle.stage_look.specs.Lookup.{LookFits}
use Rattle.stage_tests.proofs.looks.goes.Given as goal

abbrev pub invariant-rows : goal.invariant-rows
invariant-rows l = LookFits l.layout l.look
