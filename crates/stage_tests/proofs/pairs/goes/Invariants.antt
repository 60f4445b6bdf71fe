use Rattle.stage_tcap.specs.Pairs.{PairFits}
use Rattle.stage_tests.proofs.pairs.goes.Given as goal

abbrev pub invariant-rows : goal.invariant-rows
invariant-rows l = PairFits l.layout l.pair
