use Rattle.stage_tcap.specs.Charging.{ChargeFits}
use Rattle.stage_tests.proofs.charges.goes.Given as goal

abbrev pub invariant-rows : goal.invariant-rows
invariant-rows l = ChargeFits l.layout l.charge
