use Rattle.stage_tcap.specs.Refilling.{RefillFits}
use Rattle.stage_tests.proofs.refills.goes.Given as goal

abbrev pub invariant-rows : goal.invariant-rows
invariant-rows l = RefillFits l.layout l.refill
