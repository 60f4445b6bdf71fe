use Rattle.stage_thread.specs.Claiming.{ClaimFits}
use Rattle.stage_tests.proofs.claims.goes.Given as goal

abbrev pub invariant-rows : goal.invariant-rows
invariant-rows l = ClaimFits l.layout l.claim
