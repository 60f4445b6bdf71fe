use Rattle.stage_sweep.specs.Freeze.{SweepFits}
use Rattle.stage_tests.proofs.sweeps.goes.Given as goal

abbrev pub invariant-rows : goal.invariant-rows
invariant-rows l = SweepFits l.layout l.sweep
