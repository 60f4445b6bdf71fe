use Rattle.stage_quiet.specs.Flushing.{FlushMarkFits}
use Rattle.stage_tests.proofs.flush_marks.goes.Given as goal

abbrev pub invariant-rows : goal.invariant-rows
invariant-rows l = FlushMarkFits l.layout l.mark
